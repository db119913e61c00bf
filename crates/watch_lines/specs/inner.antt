pub mod CountsOne
