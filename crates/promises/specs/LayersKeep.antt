-- Every layer that the contracts allow keeps the three demands and hides a denied driver: it is the definition.
use Rattle.std.specs.Prelude.{ℕ, ◌≡◌, List}
use Rattle.std.proofs.Common.{sym, subst}
use Rattle.definition.specs.Answer.{Answer}
use Rattle.definition.specs.Table.{Lent, table_step, start}
use Rattle.layer.specs.Steps.{gave}
use Rattle.promises.specs.Promises.{Isolates, Hides, Accounts}
use Rattle.promises.specs.LayerPromises.{Begun, begun}
use Rattle.promises.specs.Layers.{Layer, Demand1, Keeps, Allowed}
use Rattle.promises.specs.Demand2.{accounting}
use Rattle.promises.specs.Demand3.{isolation}
use Rattle.promises.specs.Hidden.{hidden}
use Rattle.promises.specs.LayerDemands.{call_is}

-- a layer that is the definition everywhere keeps the others, since the definition does
pub keeps_all : (layer : Layer) → Demand1 layer → Keeps layer
keeps_all layer d =
    let same : layer.step ≡ table_step = λ i s x. d.steps s x i in
    record { demand1 = d; demand2 = subst Accounts (sym same) accounting; demand3 = subst Isolates (sym same) isolation; hides = subst Hides (sym same) hidden }

begun_is : {words : List ℕ} {x : Lent} {r : Answer} {y : Lent} → Begun words x r y → start words x ≡ gave r y
begun_is (begun b) = b _ _

pub allowed_keeps : (layer : Layer) → Allowed layer → Keeps layer
allowed_keeps layer a = keeps_all layer (record { starts = λ words x. sym (begun_is (a.starts words x)); steps = λ s x. sym (call_is (a.steps s x)) })
