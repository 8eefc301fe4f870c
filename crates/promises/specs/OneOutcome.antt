-- What a contract says by a relation, it says of one outcome: for the same inputs no other answer, and no other words or bytes, meet it. So a wrong answer
-- of an inner function is refuted by its own statement, too. A contract that is an equation needs no more; relations with a type that only its crate knows have
-- their theorem there (`OneReading` in `trace`, `OneTurn` in `layer`).
use Rattle.std.specs.Prelude.{ℕ, ◌^◌, ◌<◌, ◌≡◌, refl, Bool, true, false, List, [], ◌++◌, length, drop, leb, ltb, Option, Some, None, Result, Ok, Err}
use Rattle.std.proofs.Common.{sym, ap, ◌∙◌, arith, ltb-true, ltb-false}
use Rattle.std.specs.Borrow.{Bor}
use Rattle.definition.specs.Tests.{provided◌then◌else◌}
use Rattle.definition.specs.Limits.{max_board_words}
use Rattle.definition.specs.State.{Process, State, Upcall}
use Rattle.definition.specs.Answer.{Answer, Part, fetched, number_of}
use Rattle.definition.specs.Decide.{Action}
use Rattle.definition.specs.Image.{process_words, image_of}
use Rattle.definition.specs.Trace.{Found, found}
use Rattle.definition.specs.Table.{Lent}
use Rattle.definition.specs.Replay.{Played}
use Rattle.laws.specs.Facts.{never}
use Rattle.types.specs.declared.Image.{Image as Named}
use Rattle.types.specs.declared.Image.TheVariants as names
use Rattle.types.specs.declared.Refusal.{Refusal}
use Rattle.types.specs.Meaning.{refusal_of}
use Rattle.types.specs.Refusals.{some_number, one_refusal}
use Rattle.calls.specs.Moves.{LeadsTo}
use Rattle.trace.specs.Meaning.{Counted, board_told, words_after, Boarded}
use Rattle.trace.specs.declared.numbers.ReadError.{ReadError}
use Rattle.trace.specs.declared.records.BoardError.{BoardError}
use Rattle.trace.specs.declared.records.BoardError.TheVariants.{NoRoom}
use Rattle.lines.specs.Puts.{Put}
use Rattle.process.specs.Runs.{Held, Does, Gives}
use Rattle.process.specs.QueueRows.{Keeps}
use Rattle.table.specs.Tables.{Holds, Turns, Tells}
use Rattle.layer.specs.declared.Place.{Place}
use Rattle.layer.specs.declared.Progress.{Progress}
use Rattle.layer.specs.Steps.{lent, Refuses}
use Rattle.layer.specs.Fetching.{part_of, part_at, image_of as imageNamed, handed, Lies, Finds, IsPart}
use Rattle.layer.specs.Replaying.{Leaves}
use Rattle.layer.specs.StatementLaws.{part_size}
use Rattle.host.specs.Runs.{progress_words, RunTold, NotRun, Runs}

-- ---- a process's run and the table: what has one meaning at least gives one answer, and is left in one way

pub one_given : {A : Type 0} (f : Process → A) {run : List ℕ} {r r' : A} → Held run → Gives f run r → Gives f run r' → r ≡ r'
one_given f h x y = x h.process h.sized h.words ∙ sym (y h.process h.sized h.words)

pub one_done : (f : Process → Process) {run a a' : List ℕ} → Held run → Does f run a → Does f run a' → a ≡ a'
one_done f = one_given (λ p. process_words (f p))

pub one_told : {A : Type 0} (f : State → A) {t : List ℕ} {r r' : A} → Holds t → Tells f t r → Tells f t r' → r ≡ r'
one_told f h x y = x h.state h.good h.words ∙ sym (y h.state h.good h.words)

pub one_turned : (f : State → State) {t a a' : List ℕ} → Holds t → Turns f t a → Turns f t a' → a ≡ a'
one_turned f = one_told (λ s. image_of (f s))

pub one_kept : (f : List Upcall → List Upcall) {n : ℕ} {rows a a' : List ℕ} {left left' : ℕ} → Keeps f n rows left a → Keeps f n rows left' a' → (left ≡ left') × (a ≡ a')
one_kept f x y = (x.count ∙ sym y.count, x.words ∙ sym y.words)

-- ---- a signed change of an address, which is a word

abbrev pub Word : Option ℕ → Type 0
Word (Some n) = n < 2 ^ 32
Word None = Unit {0}

pub one_place : {from word : ℕ} (r r' : Option ℕ) → Word r → Word r' → LeadsTo from word r → LeadsTo from word r' → r ≡ r'
one_place {from} {word} r r' h h' x y = by (ltb word (2 ^ 31)) refl r r' h h' x y
  where
    by : (t : Bool) → ltb word (2 ^ 31) ≡ t → (r r' : Option ℕ) → Word r → Word r' → LeadsTo from word r → LeadsTo from word r' → r ≡ r'
    by true e (Some n) (Some k) h h' x y = ap Some (omega (arith, x.up (ltb-true _ _ e), y.up (ltb-true _ _ e)))
    by true e (Some n) None h h' x y = never (omega (arith, h, x.up (ltb-true _ _ e), y.up (ltb-true _ _ e)))
    by true e None (Some k) h h' x y = never (omega (arith, h', x.up (ltb-true _ _ e), y.up (ltb-true _ _ e)))
    by true e None None h h' x y = refl
    by false e (Some n) (Some k) h h' x y = ap Some (omega (arith, x.down (ltb-false _ _ e), y.down (ltb-false _ _ e)))
    by false e (Some n) None h h' x y = never (omega (arith, x.down (ltb-false _ _ e), y.down (ltb-false _ _ e)))
    by false e None (Some k) h h' x y = never (omega (arith, x.down (ltb-false _ _ e), y.down (ltb-false _ _ e)))
    by false e None None h h' x y = refl

-- ---- bytes that are put, and a board that is read

pub one_put : {l before a a' : List ℕ} {at next next' : ℕ} → Put l at before a next → Put l at before a' next' → (a ≡ a') × (next ≡ next')
one_put x y = (x.left ∙ sym y.left, x.place ∙ sym y.place)

pub one_board : (f : Found (List ℕ)) (old : List ℕ) {r r' : Result (ℕ × ℕ) BoardError} {a a' : List ℕ} → Boarded f old r a → Boarded f old r' a' → (r ≡ r') × (a ≡ a')
unfolding Boarded provided◌then◌else◌
one_board f old {r} {r'} {a} {a'} x y = by (leb max_board_words (length old)) x y
  where
    -- in both cases the answer and the words are equal to something
    Are : Bool → Result (ℕ × ℕ) BoardError → List ℕ → Type 0
    Are t r a = provided t then ((r ≡ board_told f) × (a ≡ words_after f old)) else ((r ≡ Err NoRoom) × (a ≡ old))

    by : (t : Bool) → Are t r a → Are t r' a' → (r ≡ r') × (a ≡ a')
    by true x y = (x.0 ∙ sym y.0, x.1 ∙ sym y.1)
    by false x y = (x.0 ∙ sym y.0, x.1 ∙ sym y.1)

-- where its words are read: of one that is broken or cut only the answer is told, and what stands in the words is not read
pub one_counted : (words : List ℕ) (after : ℕ) (old : List ℕ) {a a' : List ℕ} {r r' : Result (ℕ × ℕ) ReadError} → Counted (found words after) old r a → Counted (found words after) old r' a' → (r ≡ r') × (a ≡ a')
unfolding Counted
one_counted words after old x y = (x.0 ∙ sym y.0, x.1 ∙ sym y.1)

-- ---- steps: the answer, and every word and byte. Of the layer `step` is the step on a table or the work on a checked one, of the host what it is told

pub one_made : {A B : Type 0} (step : Lent → A) (given : B → Lent → A) {t m t' m' t'' m'' : List ℕ} {r r' : B}
    → ((f : List ℕ) → step (lent t m f) ≡ given r (lent t' m' f)) → ((f : List ℕ) → step (lent t m f) ≡ given r' (lent t'' m'' f)) → (f : List ℕ) → given r (lent t' m' f) ≡ given r' (lent t'' m'' f)
one_made step given x y f = sym (x f) ∙ y f

pub one_refused : (a : Action) (p : ℕ) (t : List ℕ) {r r' : ℕ} → Refuses a p t r → Refuses a p t r' → r ≡ r'
one_refused a p t x y = x [] [] ∙ sym (y [] [])

-- ---- a fetch: its number, and where its part lies

same_name : (i j : Named) → imageNamed i ≡ imageNamed j → i ≡ j
same_name names.Memory names.Memory e = refl
same_name names.Memory names.Flash e = never (cc)
same_name names.Flash names.Memory e = never (cc)
same_name names.Flash names.Flash e = refl

same_place : {x y : Place} → x.image ≡ y.image → x.place ≡ y.place → x.length ≡ y.length → x ≡ y
same_place p q s = λ i. record { image = p i; place = q i; length = s i }

pub one_lies : {x : Part} {r r' : Place} → Lies x r → Lies x r' → r ≡ r'
one_lies {x} {r} {r'} a b = same_place (same_name r.image r'.image (a.image ∙ sym b.image)) (a.place ∙ sym b.place) (a.size ∙ sym b.size)

pub one_part : {x : Part} {m f r r' : Bor (List ℕ)} → IsPart x m f r → IsPart x m f r' → (r.now ≡ r'.now) × (r.ref_ptr ≡ r'.ref_ptr)
one_part a b = (a.bytes ∙ sym b.bytes, a.place ∙ sym b.place)

-- each refusal has a number of its own, and what is accepted has none of them
same_outcome : (x x' : Result Place Refusal) → refusal_of x ≡ refusal_of x' → handed x ≡ handed x' → x ≡ x'
same_outcome (Ok y) (Ok y') e h = ap Ok h
same_outcome (Ok y) (Err k) e h = absurd (some_number k (sym e))
same_outcome (Err k) (Ok y) e h = absurd (some_number k e)
same_outcome (Err k) (Err k') e h = ap Err (one_refusal k k' e)

pub one_found : {r : Answer} {m f : List ℕ} {x x' : Result Place Refusal} → Finds r m f x → Finds r m f x' → x ≡ x'
one_found {r} {m} {f} {x} {x'} a b = same_outcome x x' (ap number_of e) (same_place (same_name _ _ (ap (λ p. p.image) p)) (ap (λ p. p.place) p) size)
  where
    e : fetched (refusal_of x) (part_at (handed x) m f) ≡ fetched (refusal_of x') (part_at (handed x') m f)
    e = sym a.answer ∙ b.answer

    p : part_at (handed x) m f ≡ part_at (handed x') m f
    p = ap part_of e

    size : (handed x).length ≡ (handed x').length
    size = part_size (handed x) m f a.inside ∙ ap (λ p. length p.bytes) p ∙ sym (part_size (handed x') m f b.inside)

-- ---- a run over a trace: how far it came, and every word and byte

pub one_left : {w : Played} {old a a' : List ℕ} {r r' : Progress} {y y' : Lent} → Leaves w old r y a → Leaves w old r' y' a' → (r ≡ r') × (y ≡ y') × (a ≡ a')
one_left a b = (a.told ∙ sym b.told, a.lent ∙ sym b.lent, a.lines ∙ sym b.lines)

pub one_run : (s : List ℕ) (x : Lent) (at : ℕ) (lines out : List ℕ) {r r' : Bool} {y y' : Lent} {l l' o o' : List ℕ} → Runs s x at lines out r y l o → Runs s x at lines out r' y' l' o'
    → (r ≡ r') × (y ≡ y') × (l ≡ l') × (o ≡ o')
unfolding Runs provided◌then◌else◌
one_run s x at lines out {r} {r'} {y} {y'} {l} {l'} {o} {o'} a b = by (leb 3 (length out)) a b
  where
    Are : Bool → Bool → Lent → List ℕ → List ℕ → Type 0
    Are t r y l o = provided t then RunTold s x at lines out r y l o else NotRun x lines out r y l o

    by : (t : Bool) → Are t r y l o → Are t r' y' l' o' → (r ≡ r') × (y ≡ y') × (l ≡ l') × (o ≡ o')
    by true a b =
        let e = one_left a.1.1.0 b.1.1.0 in
        (a.0 ∙ sym b.0, e.1, e.2, a.1.1.1 ∙ ap (λ p. progress_words p ++ drop 3 out) e.0 ∙ sym b.1.1.1)
    by false a b = (a.0 ∙ sym b.0, a.1 ∙ sym b.1, a.2 ∙ sym b.2, a.3 ∙ sym b.3)
