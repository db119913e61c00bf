-- Each step of the four-slot cell keeps its rule. The words and slots follow from Clear, the numbers and the answers from Fresh,
-- the lists of events and the invariant from Events.
pub mod Asks
pub mod Begins
pub mod Ends
pub mod Seats
pub mod Sees
pub mod Starts
pub mod Stores
pub mod Takes
pub use Rattle.cell_four_slot.proofs.Keeps.Asks.{asks_at, asks_ok, said_there, says_at, says_ok, shown_there}
pub use Rattle.cell_four_slot.proofs.Keeps.Begins.{begins_at, begins_ok}
pub use Rattle.cell_four_slot.proofs.Keeps.Ends.{known_at_end, timed_at_end, told_at_end}
pub use Rattle.cell_four_slot.proofs.Keeps.Seats.{ends_ok, hears_at, hears_ok, parts_ok, reseated_at, shown_number, tells_at, tells_ok}
pub use Rattle.cell_four_slot.proofs.Keeps.Starts.{parted_at, starts}
pub use Rattle.cell_four_slot.proofs.Keeps.Stores.{finishes_at, finishes_ok, stores_at, stores_ok}
pub use Rattle.cell_four_slot.proofs.Keeps.Takes.{takes_at, takes_ok}
