pub mod Ends
pub mod Family
pub mod Layouts
pub mod Left
pub mod Places
pub mod Seated
pub mod Seats
pub mod Views
