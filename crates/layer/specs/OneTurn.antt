-- What the statements about one record say, they say of one outcome: what is told, what is lent afterwards, and every byte of the buffer. A whole turn
-- (`Turned`) is told by what the rest of the run then gives, which is one by that of the run.
use Rattle.std.specs.Prelude.{ℕ, ◌≡◌, refl, List, Option, Some, None}
use Rattle.std.proofs.Common.{sym, ap, ◌∙◌}
use Rattle.definition.specs.World.{Step}
use Rattle.definition.specs.Table.{Lent}
use Rattle.laws.specs.Facts.{clash}
use Rattle.definition.specs.Board.{Kind}
use Rattle.types.specs.declared.Slot.{Slot}
use Rattle.types.specs.declared.Pair.{Pair}
use Rattle.types.specs.Meaning.{kind_of, pair_of}
use Rattle.layer.specs.Steps.{Names, Lends}
use Rattle.layer.specs.Replaying.{Made, Acted, FetchTold}

-- a step that is made, with its line
pub one_line : (s : Step) (x : Lent) (used : ℕ) (old : List ℕ) {end end' : ℕ} {y y' : Lent} {a a' : List ℕ} → Made s x used old end y a → Made s x used old end' y' a'
    → (end ≡ end') × (y ≡ y') × (a ≡ a')
one_line s x used old p q = (p.line.place ∙ sym q.line.place, p.lent ∙ sym q.lent, p.line.left ∙ sym q.line.left)

-- it is made, or there is no room for its line: never both
pub one_acted : (s : Step) (x : Lent) (used : ℕ) (old : List ℕ) (r r' : Option ℕ) {y y' : Lent} {a a' : List ℕ} → Acted s x used old r y a → Acted s x used old r' y' a'
    → (r ≡ r') × (y ≡ y') × (a ≡ a')
unfolding Acted
one_acted s x used old (Some end) (Some end') p q = let e = one_line s x used old p q in (ap Some e.0, e.1, e.2)
one_acted s x used old (Some end) None p q = clash p.room q.1
one_acted s x used old None (Some end') p q = clash q.room p.1
one_acted s x used old None None p q = (refl, p.0.0 ∙ sym q.0.0, p.0.1 ∙ sym q.0.1)

pub one_fetch_told : (s : Step) (x : Lent) (used : ℕ) (old : List ℕ) (r r' : Option ℕ) {a a' : List ℕ} → FetchTold s x used old r a → FetchTold s x used old r' a' → (r ≡ r') × (a ≡ a')
one_fetch_told s x used old r r' p q = let e = one_acted s x used old r r' p q in (e.0, e.2)

-- ---- what a refusal's look-up gives

-- a slot that is named, by its kind, the place of its driver and its number
pub one_named : (t : List ℕ) (p : ℕ) (kind : Kind) (driver j : ℕ) (x x' : Slot) → Names t p kind driver j x → Names t p kind driver j x' → (kind_of x.kind ≡ kind_of x'.kind) × (x.place ≡ x'.place) × (x.number ≡ x'.number)
one_named t p kind driver j x x' a b = (a.sort ∙ sym b.sort, a.place ∙ sym b.place, a.number ∙ sym b.number)

-- the pair that it holds
pub one_lent : (t : List ℕ) (p : ℕ) (kind : Kind) (driver j offset n : ℕ) (x x' : Pair) → Lends t p kind driver j offset n x → Lends t p kind driver j offset n x' → pair_of x ≡ pair_of x'
one_lent t p kind driver j offset n x x' a b = a.pair ∙ sym b.pair
