mod Learnt
mod Verdicts
mod Rejoined
