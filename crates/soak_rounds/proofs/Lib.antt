pub mod Lists
pub mod Wholes
mod LaneRounds
mod BoardLists
mod Origins
