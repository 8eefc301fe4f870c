-- ---- what is promised: to be believed
pub mod History
pub mod Accepted
pub mod WhichArea
pub mod Promises
pub mod LayerPromises
pub mod Layers
-- ---- accepted exactly when
pub mod Told
pub mod Conditions
pub mod Decodes
pub mod AcceptedExactly
-- ---- where a buffer lies
pub mod AreaExactly
pub mod LocatedExactly
-- ---- demand 3
pub mod Guarded
pub mod Isolation
pub mod IsolatedRuns
pub mod Demand3
-- ---- a denied driver is as one that is not there
pub mod TakenOut
pub mod BoardWithout
pub mod Beside
pub mod Matched
pub mod DecidedAlike
pub mod HiddenSteps
pub mod Hidden
-- ---- demand 2
pub mod SlotsTold
pub mod QueueTold
pub mod Demand2
pub mod Stale
-- ---- demands 2 and 3 of lists of the layer's calls
pub mod LayerDemands
-- ---- every layer that the contracts allow keeps the demands
pub mod LayersKeep
pub mod DefinitionAllowed
-- ---- wrong layers, to be read, and their refutations
pub mod Wrong
pub mod Begins
pub mod Refuted
pub mod WrongReader
pub mod WrongAreas
-- ---- wrong answers of each public function, refuted by its statement
pub mod WrongAnswers
pub mod WrongWords
-- ---- a contract allows one outcome
pub mod OneOutcome
-- ---- a run over a trace, in several calls
pub mod Pauses
