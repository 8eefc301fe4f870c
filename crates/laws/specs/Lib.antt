-- ---- of tests, lists and rows of words
pub mod Facts
pub mod Zero
pub mod Rows
-- ---- of records, boards and states as words
pub mod Codec
pub mod BoardWords
pub mod ImageBack
pub mod Reads
pub mod Form
-- ---- of boards, slots and claims
pub mod Places
pub mod Areas
pub mod Slots
pub mod Boards
pub mod Claims
-- ---- of steps: why an outcome comes, and what it keeps
pub mod Why
pub mod Walk
pub mod Fit
pub mod FitAfter
pub mod Stores
pub mod Good
pub mod Kept
pub mod Unchanged
pub mod Fetched
pub mod Formed
-- ---- of the run over a trace
pub mod Replays
pub mod Pauses
