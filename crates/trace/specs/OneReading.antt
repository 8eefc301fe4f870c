-- What the reader's own relations say, they say of one outcome: for the same bytes no other value, kind or fields meet them. The relations that leave
-- something free say where.
use Rattle.std.specs.Prelude.{ℕ, ◌≡◌, List, ◌++◌, Result}
use Rattle.std.proofs.Common.{sym, ap, ap₂, ◌∙◌, arith, take-append-drop, Some, Ok, Err}
use Rattle.definition.specs.Trace.{found}
use Rattle.laws.specs.Facts.{never}
use Rattle.trace.specs.declared.numbers.ReadError.{ReadError}
use Rattle.trace.specs.declared.numbers.ReadError.TheVariants.{Broken, Cut}
use Rattle.trace.specs.declared.records.RecordKind.{RecordKind}
use Rattle.trace.specs.Meaning.{kind_of, NamesKind, HasLimits, SingleFound, placed, Filled}
use Rattle.trace.specs.Answers.{kind_is, kind_most}

-- a number of one byte has one value; whether it is told here or left to the loop over groups is free
pub one_single : (most : ℕ) (s : List ℕ) (at : ℕ) {v v' : ℕ} → SingleFound most s at (Some v) → SingleFound most s at (Some v') → v ≡ v'
one_single most s at x y = cc

-- a number names one kind, or none
pub one_kind : (n : ℕ) (r r' : Result RecordKind ReadError) → NamesKind n r → NamesKind n r' → r ≡ r'
one_kind n (Ok k) (Ok k') x y = ap Ok (sym (kind_is k) ∙ ap kind_of (x ∙ sym y) ∙ kind_is k')
one_kind n (Ok k) (Err e) x y = never (omega (arith, x, y.1, kind_most k))
one_kind n (Err e) (Ok k) x y = never (omega (arith, x.1, y, kind_most k))
one_kind n (Err e) (Err e') x y = ap Err (x.0 ∙ sym y.0)

-- a kind has one row of limits
pub one_row : (kind : ℕ) {row row' : List ℕ} → HasLimits kind row → HasLimits kind row' → row ≡ row'
one_row kind x y = x ∙ sym y

-- fields that are read stand in one way; those that are broken or cut may have been stored
pub one_filled : (n : ℕ) (values : List ℕ) (after : ℕ) (old a a' : List ℕ) (r r' : Result ℕ ReadError) → Filled n (found values after) old r a → Filled n (found values after) old r' a' → (r ≡ r') × (a ≡ a')
one_filled n values after old a a' r r' x y =
    let p = read r x.0 in
    let q = read r' y.0 in
    (p.0 ∙ sym q.0, sym (take-append-drop n a) ∙ ap₂ ◌++◌ (p.1 ∙ sym q.1) (x.1.1 ∙ sym y.1.1) ∙ take-append-drop n a')
  where
    read : (r : Result ℕ ReadError) {l : List ℕ} → found values after ≡ placed r l → (r ≡ Ok after) × (l ≡ values)
    read (Ok k) e = (ap Ok (cc), cc)
    read (Err Broken) e = never (cc)
    read (Err Cut) e = never (cc)
