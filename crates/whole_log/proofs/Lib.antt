pub mod WholeBodies
