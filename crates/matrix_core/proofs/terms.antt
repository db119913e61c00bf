-- What the terms of both players share: operations told, overruns.
pub mod Kinds
pub mod Overruns
pub mod Steps
pub mod Told
