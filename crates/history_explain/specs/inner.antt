-- What private functions alone cite. No public contract names any of this.
pub mod Earliest
pub mod Searches
