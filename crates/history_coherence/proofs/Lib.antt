-- Lemmas: on edges and walks, on the order by ranks, on tables, and that reasons exclude every coherent order.
mod Edges
mod Walking
mod Trails
mod Ranked
mod Sorted
mod Tables
mod Sound
mod Tabled
mod Starting
mod Found
mod Rewritten
mod Worked
