-- ---- the statements of the exports
pub mod Answers
pub mod Runs
pub mod Sizes
