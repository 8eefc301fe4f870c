-- A layer, whoever wrote it, and what is asked of it: the three demands, and that it hides a denied driver, as propositions. `Wrong` has layers that break them (docs/PROMISES.md).
use Rattle.std.specs.Prelude.{◌≡◌, List, ℕ}
use Rattle.definition.specs.World.{Step, Out}
use Rattle.definition.specs.Table.{Lent, table_step, start}
use Rattle.bridge.specs.Calls.{Called}
use Rattle.promises.specs.Promises.{Isolates, Hides, Accounts}
use Rattle.promises.specs.LayerPromises.{Begun}

-- a start and a step: from a board's words or a step, and what is lent, to an answer and what is lent
pub record Layer : Type 0 where
  pub start : List ℕ → Lent → Out Lent
  pub step : Step → Lent → Out Lent

-- the definition's own
abbrev pub definition : Layer
definition = record { start = start; step = table_step }

-- demand 1: whatever is lent, the answer and every word and byte afterwards are the definition's
pub record Demand1 (layer : Layer) : Type 0 where
  pub starts : (words : List ℕ) (x : Lent) → layer.start words x ≡ start words x
  pub steps : (s : Step) (x : Lent) → layer.step s x ≡ table_step s x

-- demand 2: after the definition's accepted start and any list of the layer's steps, each call is accepted exactly when, on the state that its table
-- reads as, and is then answered as stated; what an accepted exchange returns, what a delivery is of and what is due goes by the history of its own
-- steps and answers
abbrev pub Demand2 : Layer → Type 0
Demand2 layer = Accounts layer.step

-- demand 3: after the definition's accepted start, the layer's run over any list, beside the definition's run over one process's own steps
abbrev pub Demand3 : Layer → Type 0
Demand3 layer = Isolates layer.step

-- request 3: after the definition's accepted starts on a board and on the board without a driver that is denied to a process, the layer's runs on both, beside
-- the definition's run over the process's own steps
abbrev pub HidesDenied : Layer → Type 0
HidesDenied layer = Hides layer.step

-- all of them; and none
pub record Keeps (layer : Layer) : Type 0 where
  pub demand1 : Demand1 layer
  pub demand2 : Demand2 layer
  pub demand3 : Demand3 layer
  pub hides : HidesDenied layer

pub record Breaks (layer : Layer) : Type 0 where
  pub demand1 : ¬ Demand1 layer
  pub demand2 : ¬ Demand2 layer
  pub demand3 : ¬ Demand3 layer
  pub hides : ¬ HidesDenied layer

-- each of its values is one that the contracts of the public functions allow
pub record Allowed (layer : Layer) : Type 0 where
  pub starts : (words : List ℕ) (x : Lent) → Begun words x (layer.start words x).answer (layer.start words x).after
  pub steps : (s : Step) (x : Lent) → Called s x (layer.step s x).answer (layer.step s x).after
