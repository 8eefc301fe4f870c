-- ---- the statements of the public functions
pub mod Steps
pub mod Fetching
pub mod Asking
pub mod Replaying
pub mod Lending
-- ---- laws of them, for the crates above
pub mod StatementLaws
-- ---- that those about one record allow one outcome
pub mod OneTurn
