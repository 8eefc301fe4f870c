-- What an accepted fetch hands back: a part of an image itself, of the length that was asked for.
use Rattle.std.specs.Prelude.{ℕ, ◌+◌, ◌-◌, ◌≤◌, ◌≡◌, ◌≢◌, Bool, ◌||◌, drop}
use Rattle.std.proofs.Math.Path.{refl, ap, subst}
use Rattle.std.proofs.Common.{sym, ◌∙◌}
use Rattle.std.proofs.Math.Bool.{true, false, not}
use mathlib.Core.List.{List, [], ◌∷◌}
use native.Mathlib.Omega.{arith}
use Rattle.std.proofs.Math.ListN.{length, take}
use Rattle.std.proofs.Math.Dec.{eqb}
use borrow.Author.Tests.{ltb-true, ltb-false, eqb-true, eqb-false, not-false}
use Rattle.definition.specs.Tests.{provided◌then◌else◌, ◌when◌, first_of}
use Rattle.definition.specs.Limits.{image_bytes, memory_base, flash_base}
use Rattle.definition.specs.Board.{Areas, read_only, areas_at, place_of, driver_at, slots_of, has_slot}
use Rattle.definition.specs.State.{Pair, Process, held, slot_at}
use Rattle.definition.specs.Answer.{Image, memory, flash, Part, empty_part, Answer, fetched, number_of}
use Rattle.definition.specs.Area.{Area, empty, in_ram, in_flash, outside, accessible, holdable}
use Rattle.definition.specs.Words.{part}
use Rattle.definition.specs.Decide.{fetch, Outcome, answers, part_in, part_of, decide_accepted, refusal, decide}
use Rattle.definition.specs.World.{World, Step, own, Out, process_at, ram_of, view_of, answer_of, perform, step}
use Rattle.definition.specs.Image.{state_of, well_formed}
use Rattle.definition.specs.Table.{Lent, not_image, wrong_image, world_of, out_of, table_step}
use Rattle.laws.specs.Facts.{clash, either, passed}
use Rattle.laws.specs.Rows.{part_part, part_length}
use Rattle.laws.specs.Areas.{Lies, area_lies}
use Rattle.laws.specs.Slots.{held_holdable}
use Rattle.laws.specs.Boards.{Placed, placed, few_drivers, few_slots}
use Rattle.laws.specs.ImageBack.{well_formed_good}
use Rattle.laws.specs.Good.{Good, good_of}

-- the image that a part names
abbrev pub image_in : Image → World → List ℕ
image_in memory w = w.memory
image_in flash w = w.flash

-- the part is the n bytes of its image from its place on, and the image has that many there
pub record PartHanded (w : World) (n : ℕ) (x : Part) : Type 0 where
  pub bytes : x.bytes ≡ take n (drop x.place (image_in x.image w))
  pub size : length x.bytes ≡ n
  pub inside : x.place + n ≤ image_bytes

-- ---- the part

module _ (p : ℕ) (w : World) (g : Good w.state) (size : length w.memory ≡ image_bytes) (flash-size : length w.flash ≡ image_bytes) where
  image_size : (i : Image) → length (image_in i w) ≡ image_bytes
  image_size memory = size
  image_size flash = flash-size

  handed : (i : Image) (k n : ℕ) (l : List ℕ) → l ≡ take n (drop k (image_in i w)) → k + n ≤ image_bytes → PartHanded w n (record { image = i; place = k; bytes = l })
  unfolding part
  handed i k n l e h = record { bytes = e; size = ap length e ∙ part_length k n (image_in i w) (omega (arith, image_size i)); inside = h }

  abbrev areas : Areas
  areas = areas_at w.state.board p

  abbrev process : Process
  process = process_at w.state p

  -- by the area of a read-only buffer that is held
  part_handed : (x : Pair) (area : Area) (offset n : ℕ) → Placed areas → accessible read_only area ≡ true → Lies areas process.break x area → n ≢ 0 → offset + n ≤ x.second
      → PartHanded w n (part_in (view_of w p) area (x.first + offset) n)
  unfolding part_in view_of ram_of part accessible
  part_handed x empty offset n o e z some h = absurd (omega arith)
  part_handed x in_ram offset n o e (_, (s, t)) some h =
      let end : process.break ≤ areas.ram_end = omega (arith, (g.each p).high, o.grant_high) in
      let base = o.base in
      let place : areas.ram_start - memory_base + (x.first + offset - areas.ram_start) ≡ x.first + offset - memory_base = omega arith in
      handed memory (x.first + offset - memory_base) n _
      (part_part (areas.ram_start - memory_base) (areas.ram_end - areas.ram_start) (x.first + offset - areas.ram_start) n w.memory (omega arith) ∙ ap (λ k. take n (drop k w.memory)) place)
      (omega (arith, o.top))
  part_handed x in_flash offset n o e (_, _, (s, t)) some h = handed flash (x.first + offset - flash_base) n _ refl (omega (arith, o.flash_low, o.flash_top))
  part_handed x outside offset n o e l some h = clash e refl

  -- a length of 0 touches no address; else the buffer is not empty
  held_handed : (x : Pair) (offset n : ℕ) → Placed areas → holdable read_only areas process.break x ≡ true → offset + n ≤ x.second → PartHanded w n (part_of (view_of w p) process x offset n)
  unfolding part_of view_of holdable
  held_handed x offset n o e h = either (PartHanded w n) (eqb n 0) _ _ (λ z. subst (λ k. PartHanded w k empty_part) (sym (eqb-true n 0 z)) (handed memory 0 0 [] refl (omega arith))) λ z.
      let some : n ≢ 0 = eqb-false n 0 z in
      part_handed x _ offset n o e (area_lies areas process.break x) some h

  module _ (driver j offset n : ℕ) where
    abbrev place : ℕ
    place = place_of w.state.board.drivers driver

    abbrev number : ℕ
    number = refusal (view_of w p) process (fetch driver j offset n)

    abbrev handed_back : Part
    handed_back = part_of (view_of w p) process (held read_only process place j) offset n

    -- the process is on the board, the slot exists, and the bytes lie in the buffer that it holds
    accepted_hands : number ≡ 0 → PartHanded w n handed_back
    unfolding refusal view_of has_slot
    accepted_hands e =
        let (on, e1) = passed _ _ _ e in
        let (awake, e2) = passed _ _ _ e1 in
        let (i, e3) = passed _ _ _ e2 in
        let (s, e4) = passed _ _ _ e3 in
        let b = w.state.board in
        let installed = ltb-true place (length b.drivers) (not-false _ i) in
        let exists = ltb-true j (slots_of read_only (driver_at b place)) (not-false _ s) in
        let x = held read_only process place j in
        let hold = held_holdable read_only b areas process.break place j x (omega (arith, few_drivers b g.board)) (omega (arith, few_slots b g.board read_only place)) ((g.each p).slots (slot_at read_only place j)) in
        held_handed x offset n (placed b g.board p (ltb-true p (length b.processes) (not-false _ on))) hold (ltb-false x.second (offset + n) (passed _ _ _ e4).0)

    -- a refused fetch answers another number than 0
    answer_hands : (x : Part) (t : Bool) → eqb number 0 ≡ t → answer_of p w.state.claims process (provided t then answers (fetched 0 handed_back) else answers (fetched number empty_part)) ≡ fetched 0 x
        → PartHanded w n x
    unfolding answer_of provided◌then◌else◌
    answer_hands x true q e = let same : handed_back ≡ x = cc in subst (PartHanded w n) same (accepted_hands (eqb-true number 0 q))
    answer_hands x false q e = absurd (eqb-false number 0 q (cc))

-- so no part is made up: it is what the image holds there
pub fetch_hands : (p driver j offset n : ℕ) (w : World) (x : Part) → Good w.state → length w.memory ≡ image_bytes → length w.flash ≡ image_bytes
    → (step (own p (fetch driver j offset n)) w).answer ≡ fetched 0 x → PartHanded w n x
unfolding step perform decide decide_accepted view_of
fetch_hands p driver j offset n w x g size flash-size e = answer_hands p w g size flash-size driver j offset n x _ refl e

-- ---- over whatever is lent

-- the answer to a fetch is its number and a part
pub record Fetches (r : Answer) : Type 0 where
  pub part : Part
  pub whole : r ≡ fetched (number_of r) part

pub fetches : (p driver j offset n : ℕ) (x : Lent) → Fetches (table_step (own p (fetch driver j offset n)) x).answer
unfolding table_step step perform decide decide_accepted answer_of
fetches p driver j offset n x = either (λ (o : Out Lent). Fetches o.answer) _ _ _
    (λ _. either (λ (o : Outcome). Fetches (answer_of p (state_of x.table).claims (process_at (state_of x.table) p) o)) _ _ _ (λ _. record { part = _; whole = refl }) (λ _. record { part = _; whole = refl }))
    (λ _. record { part = _; whole = refl })

neither : (s t : Bool) → (s || t) ≡ false → (s ≡ false) × (t ≡ false)
neither true t e = clash refl e
neither false t e = (refl, e)

module _ (p driver j offset n : ℕ) (x : Lent) where
  asked : Step
  asked = own p (fetch driver j offset n)

  row : ℕ
  unfolding asked
  row = first_of (1 when wrong_image asked x ∷ 2 when not (well_formed x.table) ∷ [])

  accepted_part : (y : Part) → (table_step (own p (fetch driver j offset n)) x).answer ≡ fetched 0 y → (length y.bytes ≡ n) × (n ≤ image_bytes)
  unfolding table_step wrong_image asked row
  accepted_part y e = either (λ (o : Out Lent). o.answer ≡ fetched 0 y → (length y.bytes ≡ n) × (n ≤ image_bytes)) (eqb row 0) (out_of (step asked (world_of x))) (record { answer = fetched row empty_part; after = x }) hands
      (λ t e. absurd (eqb-false row 0 t (ap number_of e))) e
    where
      hands : eqb row 0 ≡ true → (step asked (world_of x)).answer ≡ fetched 0 y → (length y.bytes ≡ n) × (n ≤ image_bytes)
      hands t e =
          let (images, rest) = passed 0 (not_image x.memory || not_image x.flash) (2 when not (well_formed x.table) ∷ []) (eqb-true row 0 t) in
          let (memory-so, flash-so) = neither (not_image x.memory) (not_image x.flash) images in
          let well = well_formed_good x.table (not-false _ (passed 1 (not (well_formed x.table)) [] rest).0) in
          let h = fetch_hands p driver j offset n (world_of x) y (good_of (state_of x.table) well) (eqb-true _ _ (not-false _ memory-so)) (eqb-true _ _ (not-false _ flash-so)) e in
          (h.size, omega (arith, h.inside))

-- an accepted fetch of n bytes hands back n bytes, which an image has
pub accepted_size : (p driver j offset n : ℕ) (x : Lent) → number_of (table_step (own p (fetch driver j offset n)) x).answer ≡ 0
    → (length (fetches p driver j offset n x).part.bytes ≡ n) × (n ≤ image_bytes)
accepted_size p driver j offset n x e = let t = fetches p driver j offset n x in accepted_part p driver j offset n x t.part (t.whole ∙ ap (λ k. fetched k t.part) e)
