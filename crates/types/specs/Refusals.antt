-- What distinguishes refusals: each has a number of its own, which is not 0.
use Rattle.std.specs.Prelude.{ℕ, ◌≡◌, refl, [], ◌∷◌, get_or, Option, Some, None}
use Rattle.std.proofs.Common.{sym, ap, ◌∙◌}
use Rattle.types.specs.declared.Refusal.{Refusal}
use Rattle.types.specs.declared.Refusal.TheVariants.{NoImage, NoTable, NoProcess, ProcessExited, ProcessWaits, ProcessRuns, NoDriver, NoSlot, PastTheBuffer, QueueFull, NullUpcall, NotShared, NoBoard}
use Rattle.types.specs.Meaning.{number_of}

-- the refusal that a number is of
abbrev refusal_at : ℕ → Option Refusal
refusal_at n = get_or
    (None ∷ Some NoImage ∷ Some NoTable ∷ Some NoProcess ∷ Some ProcessExited ∷ Some ProcessWaits ∷ Some ProcessRuns ∷ Some NoDriver ∷ Some NoSlot
    ∷ Some PastTheBuffer ∷ Some QueueFull ∷ Some NullUpcall ∷ Some NotShared ∷ Some NoBoard ∷ []) n None

again : (e : Refusal) → refusal_at (number_of e) ≡ Some e
again NoImage = refl
again NoTable = refl
again NoProcess = refl
again ProcessExited = refl
again ProcessWaits = refl
again ProcessRuns = refl
again NoDriver = refl
again NoSlot = refl
again PastTheBuffer = refl
again QueueFull = refl
again NullUpcall = refl
again NotShared = refl
again NoBoard = refl

pub some_number : (e : Refusal) → number_of e ≡ 0 → ⊥
some_number e h = by (sym (again e) ∙ ap refusal_at h)
  where
    by : Some e ≡ None → ⊥
    by q = cc

pub one_refusal : (e e' : Refusal) → number_of e ≡ number_of e' → e ≡ e'
one_refusal e e' h = by (sym (again e) ∙ ap refusal_at h ∙ again e')
  where
    by : Some e ≡ Some e' → e ≡ e'
    by q = cc
