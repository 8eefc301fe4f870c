-- Calls of the layer's public functions, one after another, each on what the last one left: what their contracts say of them, and no more.
use Rattle.std.specs.Prelude.{ℕ, ◌≡◌, List, [], ◌∷◌, Result}
use Rattle.std.specs.Borrow.{Bor}
use Rattle.definition.specs.Answer.{Part, Answer, fetched, number_of}
use Rattle.definition.specs.Decide.{call, event, resume, deposit, fetch}
use Rattle.definition.specs.World.{Step, own, latch}
use Rattle.definition.specs.Table.{Lent, table_step}
use Rattle.types.specs.declared.Refusal.{Refusal}
use Rattle.types.specs.Meaning.{refusal_of}
use Rattle.layer.specs.declared.Place.{Place}
use Rattle.layer.specs.Steps.{lent, Makes, MakesAlone}
use Rattle.layer.specs.Fetching.{part_of, part_at, handed as place_in, IsPart, Lies, Finds}

-- the number, and the part, in what the definition answers to a fetch: the contracts of its functions name them
abbrev pub number_to : Step → Lent → ℕ
number_to s x = number_of (table_step s x).answer

abbrev pub part_to : Step → Lent → Part
part_to s x = part_of (table_step s x).answer

-- what is lent, where it matters where the images stand
abbrev pub lent_at : (table : List ℕ) → (memory flash : Bor (List ℕ)) → Lent
lent_at t m f = lent t m.now f.now

-- A call of a public function: the step that its contract names, what was lent, the answer, and what was lent afterwards. Each case has the contract of a
-- function as it stands in the code. A fetch is made in three ways: its number is asked for and, with the same inputs, the slice r that is the part or the place r
-- where the part lies; or number and place are told at once.
pub data Called : Step → Lent → Answer → Lent → Type 0 where
  called : {p class r0 r1 r2 r3 : ℕ} {t m f : List ℕ} {r : Answer} {t' m' : List ℕ} → Makes (own p (call class r0 r1 r2 r3)) t m r t' m'
      → Called (own p (call class r0 r1 r2 r3)) (lent t m f) r (lent t' m' f)
  evented : {p driver j x y z : ℕ} {t m f : List ℕ} {r : Answer} {t' : List ℕ} → MakesAlone (own p (event driver j x y z)) t r t'
      → Called (own p (event driver j x y z)) (lent t m f) r (lent t' m f)
  resumed : {p : ℕ} {t m f : List ℕ} {r : Answer} {t' : List ℕ} → MakesAlone (own p resume) t r t' → Called (own p resume) (lent t m f) r (lent t' m f)
  deposited : {p driver j offset : ℕ} {bytes t m f : List ℕ} {r : Answer} {m' : List ℕ} → Makes (own p (deposit driver j offset bytes)) t m r t m'
      → Called (own p (deposit driver j offset bytes)) (lent t m f) r (lent t m' f)
  handed : {p driver j offset n : ℕ} {t : List ℕ} {m f r : Bor (List ℕ)} {number : ℕ} → number ≡ number_to (own p (fetch driver j offset n)) (lent_at t m f)
      → IsPart (part_to (own p (fetch driver j offset n)) (lent_at t m f)) m f r
      → Called (own p (fetch driver j offset n)) (lent_at t m f) (fetched number (part_to (own p (fetch driver j offset n)) (lent_at t m f))) (lent_at t m f)
  located : {p driver j offset n : ℕ} {x : Lent} {r : Place} {number : ℕ} → number ≡ number_to (own p (fetch driver j offset n)) x
      → Lies (part_to (own p (fetch driver j offset n)) x) r → Called (own p (fetch driver j offset n)) x (fetched number (part_to (own p (fetch driver j offset n)) x)) x
  found : {p driver j offset n : ℕ} {x : Lent} {r : Result Place Refusal} → Finds (table_step (own p (fetch driver j offset n)) x).answer x.memory x.flash r
      → Called (own p (fetch driver j offset n)) x (fetched (refusal_of r) (part_at (place_in r) x.memory x.flash)) x
  latched : {driver peak : ℕ} {t m f : List ℕ} {r : Answer} {t' : List ℕ} → MakesAlone (latch driver peak) t r t' → Called (latch driver peak) (lent t m f) r (lent t' m f)

-- a list of steps, made by calls, with all answers
pub data Ran : List Step → Lent → List Answer → Lent → Type 0 where
  ended : (x : Lent) → Ran [] x [] x
  next : {s : Step} {l : List Step} {r : Answer} {answers : List Answer} {x y z : Lent} → Called s x r y → Ran l y answers z → Ran (s ∷ l) x (r ∷ answers) z

-- ---- a fetch, by what it tells

-- a call with that number, whose part is the slice r itself
pub record Hands (s : Step) (t : List ℕ) (m f : Bor (List ℕ)) (number : ℕ) (r : Bor (List ℕ)) : Type 0 where
  pub part : Part
  pub call : Called s (lent_at t m f) (fetched number part) (lent_at t m f)
  pub itself : IsPart part m f r

-- a call with that number, whose part lies at the place r
pub record Locates (s : Step) (x : Lent) (number : ℕ) (r : Place) : Type 0 where
  pub part : Part
  pub call : Called s x (fetched number part) x
  pub lies : Lies part r
