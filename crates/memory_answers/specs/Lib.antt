pub mod Handing
pub mod Shows
