-- Laws of a host that asks where a held buffer lies: the rows of its refusals, and what it is told.
use Prim.Native.Nat.{ℕ, ◌≤◌, ◌<◌}
use mathlib.Core.Path.{◌≡◌, refl, sym, ap, ap₂, ◌∙◌}
use mathlib.Core.Bool.{Bool, true, false, not}
use mathlib.Core.List.{List, [], ◌∷◌}
use mathlib.Core.Logic.{◌⊎◌, inl, inr}
use native.Mathlib.Omega.{arith}
use lib.ListN.{get_or}
use borrow.Author.Tests.{ne_eqb, lt-ltb, le-ltb}
use Rattle.definition.specs.Tests.{provided◌then◌else◌, Row, ◌when◌, first_of}
use Rattle.definition.specs.Board.{Kind, subscribe, read_write, read_only, areas_at, place_of, installed, has_slot}
use Rattle.definition.specs.State.{Pair, held}
use Rattle.definition.specs.Area.{Area, area_of}
use Rattle.definition.specs.World.{process_at}
use Rattle.definition.specs.Image.{state_of, well_formed}
use Rattle.definition.specs.Located.{refused, lies, has_buffer, question_rows, located, locate}
use Rattle.laws.specs.Facts.{passed_on}
use Rattle.laws.specs.Reads.{processes_so}
use Rattle.std.specs.Prelude.{Result, IsErrAnd}
use Rattle.types.specs.Meaning.{kind_of, number_of}
use Rattle.types.specs.declared.Kind as Code
use Rattle.types.specs.declared.Kind.TheVariants as says
use Rattle.types.specs.declared.Refusal.{Refusal}
use Rattle.layer.specs.Steps.{named_refusal}
use Rattle.layer.specs.declared.Buffer.{Buffer}
use Rattle.layer.specs.Asking.{located_of}
use Rattle.types.specs.Refusals.{some_number}

-- ---- rows 7 and 8 after row 3; a subscribe slot holds no buffer

-- the number that is left where the slot is there
abbrev pub left_for : Kind → ℕ
left_for subscribe = 8
left_for read_write = 0
left_for read_only = 0

module _ (t : List ℕ) (p k j : ℕ) where
  pub no_process_lem : (kind : Kind) → get_or t 0 0 ≤ p → 3 ≡ first_of (question_rows kind (state_of t).board p k j)
  unfolding first_of provided◌then◌else◌
  no_process_lem kind h = rw (processes_so t, le-ltb p (get_or t 0 0) h)

  module _ (known : p < get_or t 0 0) where
    last_rows : Kind → List Row
    last_rows kind = 7 when not (installed (state_of t).board k) ∷ 8 when not (has_buffer kind (state_of t).board k j) ∷ []

    past_process : (kind : Kind) → first_of (question_rows kind (state_of t).board p k j) ≡ first_of (last_rows kind)
    unfolding first_of provided◌then◌else◌ last_rows
    past_process kind = rw (processes_so t, lt-ltb p (get_or t 0 0) known)

    pub named_refused : (kind : Kind) (e : Refusal) → number_of e ≡ named_refusal kind (state_of t) k j → number_of e ≡ first_of (question_rows kind (state_of t).board p k j)
    unfolding first_of provided◌then◌else◌ last_rows has_buffer
    named_refused kind e h = go kind (installed (state_of t).board k) (has_slot kind (state_of t).board k j) refl refl h ∙ sym (past_process kind)
      where
        go : (kind : Kind) (i s : Bool) → installed (state_of t).board k ≡ i → has_slot kind (state_of t).board k j ≡ s → number_of e ≡ first_of (7 when not i ∷ 8 when not s ∷ []) → number_of e ≡ first_of (last_rows kind)
        go kind false s q r h = rw q h
        go subscribe true false q r h = rw q h
        go read_write true false q r h = rw (q, r) h
        go read_only true false q r h = rw (q, r) h
        go kind true true q r h = absurd (some_number e h)

    named_there : (kind : Kind) → 0 ≡ named_refusal kind (state_of t) k j → left_for kind ≡ first_of (question_rows kind (state_of t).board p k j)
    unfolding first_of provided◌then◌else◌ last_rows has_buffer
    named_there kind z = go kind (installed (state_of t).board k) (has_slot kind (state_of t).board k j) refl refl z ∙ sym (past_process kind)
      where
        go : (kind : Kind) (i s : Bool) → installed (state_of t).board k ≡ i → has_slot kind (state_of t).board k j ≡ s → 0 ≡ first_of (7 when not i ∷ 8 when not s ∷ []) → left_for kind ≡ first_of (last_rows kind)
        go kind false s q r e = absurd (omega arith)
        go kind true false q r e = absurd (omega arith)
        go subscribe true true q r e = rw q
        go read_write true true q r e = rw (q, r)
        go read_only true true q r e = rw (q, r)

    pub holds_upcall : {kind : Code.Kind} → kind ≡ says.Subscribe → 0 ≡ named_refusal (kind_of kind) (state_of t) k j → 8 ≡ first_of (question_rows (kind_of kind) (state_of t).board p k j)
    holds_upcall {kind} e z = ap (λ y. left_for (kind_of y)) (sym e) ∙ named_there (kind_of kind) z

    pub holds_buffer : {kind : Code.Kind} → (kind ≡ says.ReadWrite) ⊎ (kind ≡ says.ReadOnly) → 0 ≡ named_refusal (kind_of kind) (state_of t) k j → 0 ≡ first_of (question_rows (kind_of kind) (state_of t).board p k j)
    holds_buffer {kind} (inl e) z = ap (λ y. left_for (kind_of y)) (sym e) ∙ named_there (kind_of kind) z
    holds_buffer {kind} (inr e) z = ap (λ y. left_for (kind_of y)) (sym e) ∙ named_there (kind_of kind) z

-- ---- a host that asks

module _ (t : List ℕ) (kind : Kind) (p driver j : ℕ) where
  abbrev rows : ℕ
  rows = first_of (question_rows kind (state_of t).board p (place_of (state_of t).board.drivers driver) j)

  pub asked_refused : (r : Result Buffer Refusal) (e : Refusal) → IsErrAnd r (λ y. y ≡ e) → number_of e ≡ rows → located_of r ≡ located kind p driver j (state_of t)
  unfolding located provided◌then◌else◌
  asked_refused r e same h = rw (passed_on r e same, sym h, ne_eqb (number_of e) 0 (some_number e))

  pub asked_told : 0 ≡ rows → (y : Pair) (area : Area) → y ≡ held kind (process_at (state_of t) p) (place_of (state_of t).board.drivers driver) j → area ≡ area_of (areas_at (state_of t).board p) (process_at (state_of t) p).break y
      → lies area y ≡ located kind p driver j (state_of t)
  unfolding located provided◌then◌else◌
  asked_told z y area reads here = rw (sym z) (ap₂ lies (here ∙ ap (area_of (areas_at (state_of t).board p) (process_at (state_of t) p).break) reads) reads)

-- row 2 stands before it
module _ (t : List ℕ) (kind : Kind) (p driver j : ℕ) where
  pub no_table_lem : well_formed t ≡ false → refused 2 ≡ locate kind p driver j t
  unfolding locate provided◌then◌else◌
  no_table_lem e = rw e

  pub on_table_lem : well_formed t ≡ true → located kind p driver j (state_of t) ≡ locate kind p driver j t
  unfolding locate provided◌then◌else◌
  on_table_lem e = rw e
