-- What a host is told of a step, and of where a held buffer lies: an answer as a kind and five words, at the front of a slice that it lends.
use Rattle.std.specs.Prelude.{ℕ, ◌≡◌, Bool, true, false, List, [], ◌∷◌, ◌++◌, length, drop, leb}
use Rattle.definition.specs.Tests.{provided◌then◌else◌}
use Rattle.definition.specs.Answer.{Image, memory, flash, Answer, refused, registers, delivered, waits, nothing, taken, deposited, latched, started, terminated, restarted, fetched}
use Rattle.definition.specs.Area.{Area, empty, in_ram, in_flash, outside}
use Rattle.definition.specs.World.{Out}
use Rattle.definition.specs.Table.{Lent}
use Rattle.definition.specs.Located.{Located, refused as unlocated, lies}
use Rattle.layer.specs.declared.Place.{Place}
use Rattle.layer.specs.Steps.{lent}
use Rattle.layer.specs.Fetching.{image_of}

abbrev pub image_word : Image → ℕ
image_word memory = 0
image_word flash = 1

-- the six words of each answer: its kind first, then its values, then zeros; of a fetched part its number, image, place and length
abbrev pub answer_words : Answer → List ℕ
answer_words (refused n) = 0 ∷ n ∷ 0 ∷ 0 ∷ 0 ∷ 0 ∷ []
answer_words (registers r0 r1 r2 r3) = 1 ∷ r0 ∷ r1 ∷ r2 ∷ r3 ∷ 0 ∷ []
answer_words (delivered pointer r0 r1 r2 r3) = 2 ∷ pointer ∷ r0 ∷ r1 ∷ r2 ∷ r3 ∷ []
answer_words waits = 3 ∷ 0 ∷ 0 ∷ 0 ∷ 0 ∷ 0 ∷ []
answer_words nothing = 4 ∷ 0 ∷ 0 ∷ 0 ∷ 0 ∷ 0 ∷ []
answer_words taken = 5 ∷ 0 ∷ 0 ∷ 0 ∷ 0 ∷ 0 ∷ []
answer_words deposited = 6 ∷ 0 ∷ 0 ∷ 0 ∷ 0 ∷ 0 ∷ []
answer_words latched = 7 ∷ 0 ∷ 0 ∷ 0 ∷ 0 ∷ 0 ∷ []
answer_words started = 8 ∷ 0 ∷ 0 ∷ 0 ∷ 0 ∷ 0 ∷ []
answer_words (terminated code) = 9 ∷ code ∷ 0 ∷ 0 ∷ 0 ∷ 0 ∷ []
answer_words (restarted code) = 10 ∷ code ∷ 0 ∷ 0 ∷ 0 ∷ 0 ∷ []
answer_words (fetched n x) = 11 ∷ n ∷ image_word x.image ∷ x.place ∷ length x.bytes ∷ 0 ∷ []

-- those of a fetch, by its number and by where its part lies
abbrev pub place_words : ℕ → Place → List ℕ
place_words n x = 11 ∷ n ∷ image_word (image_of x.image) ∷ x.place ∷ x.length ∷ 0 ∷ []

-- those of where a held buffer lies: its area, its address and its size
abbrev pub area_number : Area → ℕ
area_number empty = 0
area_number in_ram = 1
area_number in_flash = 2
area_number outside = 3

abbrev pub located_words : Located → List ℕ
located_words (unlocated n) = 0 ∷ n ∷ 0 ∷ 0 ∷ 0 ∷ 0 ∷ []
located_words (lies area x) = 12 ∷ area_number area ∷ x.first ∷ x.second ∷ 0 ∷ 0 ∷ []

-- ---- an exported step, whatever is lent

-- what the host has afterwards: the bool that it gets, all that it lent to the step, and the slice for the answer
pub record Told : Type 0 where
  pub done : Bool
  pub after : Lent
  pub out : List ℕ

abbrev pub told : Bool → Lent → List ℕ → Told
told done x out = record { done = done; after = x; out = out }

-- the answer stands in the first six words of out, the rest of which stays as it was; where out has fewer, nothing is done
unfoldable pub tell : (Lent → Out Lent) → Lent → (out : List ℕ) → Told
tell step x out = provided leb 6 (length out) then told true (step x).after (answer_words (step x).answer ++ drop 6 out) else told false x out

-- it takes the memory image; the flash image, which it does not take, stays as it was
abbrev pub Writes : (Lent → Out Lent) → (table memory out : List ℕ) → Bool → (after memoryAfter outAfter : List ℕ) → Type 0
Writes step t m out r t' m' out' = (f : List ℕ) → tell step (lent t m f) out ≡ told r (lent t' m' f) out'

-- it takes no image
abbrev pub WritesAlone : (Lent → Out Lent) → (table out : List ℕ) → Bool → (after outAfter : List ℕ) → Type 0
WritesAlone step t out r t' out' = (m : List ℕ) → Writes step t m out r t' m out'

-- it takes both images, and only reads
abbrev pub WritesOnly : (Lent → Out Lent) → (table memory flash out : List ℕ) → Bool → (outAfter : List ℕ) → Type 0
WritesOnly step t m f out r out' = tell step (lent t m f) out ≡ told r (lent t m f) out'

-- ---- an exported question: what is lent to it is only read

-- its words stand in the first six of out, the rest of which stays as it was; where out has fewer, nothing is done
unfoldable pub answered : (words out : List ℕ) → Bool × List ℕ
answered words out = provided leb 6 (length out) then (true, words ++ drop 6 out) else (false, out)
