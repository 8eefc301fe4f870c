-- What a host is told that asks where a held buffer lies: the definition tells it exactly, whatever table is lent, and no other way to answer does.
use Rattle.std.specs.Prelude.{ℕ, suc, ◌≤◌, ◌<◌, ◌≡◌, ◌↔◌, ◌≢◌, ◌⊎◌, Bool, List, [], ◌∷◌}
use Rattle.std.proofs.Math.Path.{refl, sym, ap, ap₂, subst}
use Rattle.std.proofs.Common.{◌∙◌, arith}
use Rattle.std.proofs.Math.Logic.{inl, inr}
use Rattle.std.proofs.Math.Bool.{true, false, not}
use Rattle.std.proofs.Math.Decide.{dec_lt}
use Rattle.std.proofs.Math.ListN.{length}
use Rattle.std.proofs.Math.Dec.{ltb, eqb}
use borrow.Author.Tests.{ltb-true, ltb-false, eqb-true, eqb-false, lt-ltb, le-ltb, eq-eqb, ne_eqb, not-false}
use Rattle.definition.specs.Tests.{provided◌then◌else◌, ◌when◌, first_of}
use Rattle.definition.specs.Board.{Board, Areas, Kind, subscribe, read_write, read_only, areas_at, place_of, driver_at, slots_of, installed, has_slot}
use Rattle.definition.specs.State.{Pair, held, slot_at, State}
use Rattle.definition.specs.Area.{Area, in_flash, outside, area_of, accessible, holdable}
use Rattle.definition.specs.World.{process_at}
use Rattle.definition.specs.Image.{state_of, well_formed}
use Rattle.definition.specs.Located.{Located, refused, lies, has_buffer, question_rows, located, locate}
use Rattle.laws.specs.Facts.{never, clash, passed, pass, pass_none}
use Rattle.laws.specs.Slots.{held_holdable}
use Rattle.laws.specs.Boards.{placed, few_drivers, few_slots}
use Rattle.laws.specs.Places.{place_number, number_place}
use Rattle.laws.specs.ImageBack.{well_formed_good}
use Rattle.laws.specs.Good.{good_of}
use Rattle.promises.specs.WhichArea.{LiesExactly, ToldExactly, RefusedFor, no_table, no_process, no_driver, no_buffer, TellsWhere}
use Rattle.promises.specs.AreaExactly.{exactly, one_area}

-- ---- the number of the rows

module _ (s : State) (kind : Kind) (p driver j : ℕ) where
  abbrev place : ℕ
  place = place_of s.board.drivers driver

  abbrev number : ℕ
  number = first_of (question_rows kind s.board p place j)

  abbrev pair_held : Pair
  pair_held = held kind (process_at s p) place j

  abbrev lying : Pair → Area
  lying y = area_of (areas_at s.board p) (process_at s p).break y

  -- what is told of a buffer was not refused: the number of the rows is 0, and the buffer is the one that is held
  not_refused : (area : Area) (x : Pair) → located kind p driver j s ≡ lies area x → (number ≡ 0) × (lying x ≡ area) × (pair_held ≡ x)
  unfolding located provided◌then◌else◌
  not_refused area x e = go (eqb number 0) refl e
    where
      go : (t : Bool) → eqb number 0 ≡ t → (provided t then lies (lying pair_held) pair_held else refused number) ≡ lies area x → (number ≡ 0) × (lying x ≡ area) × (pair_held ≡ x)
      go true q e = let same : pair_held ≡ x = cc in (eqb-true number 0 q, ap lying (sym same) ∙ cc, same)
      go false q e = never (cc)

  -- what is refused has the number of the rows
  is_refused : (n : ℕ) → located kind p driver j s ≡ refused n → (number ≢ 0) × (number ≡ n)
  unfolding located provided◌then◌else◌
  is_refused n e = go (eqb number 0) refl e
    where
      go : (t : Bool) → eqb number 0 ≡ t → (provided t then lies (lying pair_held) pair_held else refused number) ≡ refused n → (number ≢ 0) × (number ≡ n)
      go true q e = never (cc)
      go false q e = (eqb-false number 0 q, cc)

  -- and the other way round
  tells_held : number ≡ 0 → located kind p driver j s ≡ lies (lying pair_held) pair_held
  unfolding located provided◌then◌else◌
  tells_held z = rw (eq-eqb number 0 z)

  refuses_by : number ≢ 0 → located kind p driver j s ≡ refused number
  unfolding located provided◌then◌else◌
  refuses_by h = rw (ne_eqb number 0 h)

-- a slot that is for a buffer, and one that is not there or is for none
module _ (b : Board) (k j : ℕ) where
  has_buffer_lem : (kind : Kind) → (has_buffer kind b k j ≡ true) ↔ ((kind ≢ subscribe) × (j < slots_of kind (driver_at b k)))
  unfolding has_buffer has_slot
  has_buffer_lem subscribe = (λ e. clash {t = false} e refl, λ (n, h). absurd (n refl))
  has_buffer_lem read_write = (λ e. (λ q. never (cc), ltb-true j (slots_of read_write (driver_at b k)) e), λ (n, h). lt-ltb j (slots_of read_write (driver_at b k)) h)
  has_buffer_lem read_only = (λ e. (λ q. never (cc), ltb-true j (slots_of read_only (driver_at b k)) e), λ (n, h). lt-ltb j (slots_of read_only (driver_at b k)) h)

  no_buffer_lem : (kind : Kind) → (has_buffer kind b k j ≡ false) ↔ ((kind ≡ subscribe) ⊎ (slots_of kind (driver_at b k) ≤ j))
  unfolding has_buffer has_slot
  no_buffer_lem subscribe = (λ e. inl refl, λ h. refl)
  no_buffer_lem read_write = (λ e. inr (ltb-false j (slots_of read_write (driver_at b k)) e), λ h. elim h [ inl e ↦ never (cc) | inr h ↦ le-ltb j (slots_of read_write (driver_at b k)) h ])
  no_buffer_lem read_only = (λ e. inr (ltb-false j (slots_of read_only (driver_at b k)) e), λ h. elim h [ inl e ↦ never (cc) | inr h ↦ le-ltb j (slots_of read_only (driver_at b k)) h ])

-- where memory of a kind is accessible
not_outside : (kind : Kind) (area : Area) → kind ≢ subscribe → accessible kind area ≡ true → area ≢ outside
unfolding accessible
not_outside subscribe area n e q = n refl
not_outside read_write area n e q = clash {t = false} (ap (accessible read_write) (sym q) ∙ e) refl
not_outside read_only area n e q = clash {t = false} (ap (accessible read_only) (sym q) ∙ e) refl

not_flash : (kind : Kind) (area : Area) → accessible kind area ≡ true → kind ≡ read_write → area ≢ in_flash
unfolding accessible
not_flash kind area e q f = clash {t = false} (ap (λ k. accessible k in_flash) (sym q) ∙ ap (accessible kind) (sym f) ∙ e) refl

accessible_held : (kind : Kind) (a : Areas) (break : ℕ) (x : Pair) → kind ≢ subscribe → holdable kind a break x ≡ true → accessible kind (area_of a break x) ≡ true
unfolding holdable
accessible_held subscribe a break x n e = absurd (n refl)
accessible_held read_write a break x n e = e
accessible_held read_only a break x n e = e

-- the rows, where none holds
rows_pass : (b : Board) (kind : Kind) (p k j : ℕ) → p < length b.processes → k < length b.drivers → has_buffer kind b k j ≡ true → first_of (question_rows kind b p k j) ≡ 0
rows_pass b kind p k j known there has =
    pass 3 _ _ (ap not (lt-ltb p (length b.processes) known)) (pass 7 _ _ (ap not (lt-ltb k (length b.drivers) there)) (pass 8 _ _ (ap not has) pass_none))

module _ (t : List ℕ) (kind : Kind) (p driver j : ℕ) (area : Area) (x : Pair) where
  on_table_lem : well_formed t ≡ true → located kind p driver j (state_of t) ≡ lies area x → ToldExactly kind p driver j t area x
  on_table_lem formed e =
      let s = state_of t in
      let b = s.board in
      let k = place_of b.drivers driver in
      let g = good_of s (well_formed_good t formed) in
      let (n, here, same) = not_refused s kind p driver j area x e in
      let (on, n1) = passed _ _ _ n in
      let (there, n2) = passed _ _ _ n1 in
      let (buffer, slot) = (has_buffer_lem b k j kind).0 (not-false _ (passed _ _ _ n2).0) in
      let known = ltb-true p (length b.processes) (not-false _ on) in
      let installed = ltb-true k (length b.drivers) (not-false _ there) in
      let hold = held_holdable kind b (areas_at b p) (process_at s p).break k j (held kind (process_at s p) k j) (omega (arith, few_drivers b g.board)) (omega (arith, few_slots b g.board kind k)) ((g.each p).slots (slot_at kind k j)) in
      let access = subst (λ y. accessible kind y ≡ true) here (accessible_held kind (areas_at b p) (process_at s p).break x buffer (subst (λ y. holdable kind (areas_at b p) (process_at s p).break y ≡ true) same hold)) in
      record {
        formed = formed;
        known = known;
        place = k;
        named = record { installed = installed; number = place_number b.drivers driver installed; slot = slot; buffer = buffer };
        holds = sym same;
        exact = subst (LiesExactly (areas_at b p) (process_at s p).break x.first x.second) here (exactly (areas_at b p) (placed b g.board p known) (process_at s p).break x.first x.second);
        inside = not_outside kind area buffer access;
        writable = not_flash kind area access;
      }

  told_exactly : locate kind p driver j t ≡ lies area x → ToldExactly kind p driver j t area x
  unfolding locate provided◌then◌else◌
  told_exactly e = go (well_formed t) refl e
    where
      go : (f : Bool) → well_formed t ≡ f → (provided f then located kind p driver j (state_of t) else refused 2) ≡ lies area x → ToldExactly kind p driver j t area x
      go true q e = on_table_lem q e
      go false q e = never (cc)

  told_back : ToldExactly kind p driver j t area x → locate kind p driver j t ≡ lies area x
  unfolding locate provided◌then◌else◌
  told_back e =
      let s = state_of t in
      let b = s.board in
      let g = good_of s (well_formed_good t e.formed) in
      let here : place_of b.drivers driver ≡ e.place = number_place b driver e.place g.board e.named.installed e.named.number in
      let same : held kind (process_at s p) (place_of b.drivers driver) j ≡ x = ap (λ k. held kind (process_at s p) k j) here ∙ sym e.holds in
      let none = rows_pass b kind p (place_of b.drivers driver) j e.known (omega (arith, here, e.named.installed)) (subst (λ k. has_buffer kind b k j ≡ true) (sym here) ((has_buffer_lem b e.place j kind).1 (e.named.buffer, e.named.slot))) in
      let lies_here : area_of (areas_at b p) (process_at s p).break x ≡ area = one_area _ _ (exactly (areas_at b p) (placed b g.board p e.known) (process_at s p).break x.first x.second) e.exact in
      rw e.formed (tells_held s kind p driver j none ∙ ap₂ lies (ap (area_of (areas_at b p) (process_at s p).break) same ∙ lies_here) same)

-- ---- why a host is refused

module _ (t : List ℕ) (kind : Kind) (p driver j n : ℕ) where
  abbrev b : Board
  b = (state_of t).board

  abbrev k : ℕ
  k = place_of b.drivers driver

  -- by the first row whose test holds
  by_row : well_formed t ≡ true → n ≢ 0 → first_of (question_rows kind b p k j) ≡ n → RefusedFor kind p driver j t n
  unfolding first_of provided◌then◌else◌
  by_row formed some e = go _ _ _ refl refl refl e
    where
      go : (on there has : Bool) → ltb p (length b.processes) ≡ on → installed b k ≡ there → has_buffer kind b k j ≡ has → first_of (3 when not on ∷ 7 when not there ∷ 8 when not has ∷ []) ≡ n
          → RefusedFor kind p driver j t n
      go false there has q r h e = no_process (sym e) formed (ltb-false p (length b.processes) q)
      go true false has q r h e =
          no_driver (sym e) formed (ltb-true p (length b.processes) q)
          (λ i here same. absurd (omega (arith, number_place b driver i (good_of (state_of t) (well_formed_good t formed)).board here same, ltb-false k (length b.drivers) r)))
      go true true false q r h e =
          let here = ltb-true k (length b.drivers) r in
          no_buffer (sym e) formed (ltb-true p (length b.processes) q) k here (place_number b.drivers driver here) ((no_buffer_lem b k j kind).0 h)
      go true true true q r h e = absurd (some (sym e))

  by_number : {m : ℕ} → n ≡ suc m → first_of (question_rows kind b p k j) ≡ suc m → located kind p driver j (state_of t) ≡ refused n
  by_number e q = refuses_by (state_of t) kind p driver j (λ z. never (cc)) ∙ ap refused (q ∙ sym e)

  refused_for : locate kind p driver j t ≡ refused n → RefusedFor kind p driver j t n
  unfolding locate provided◌then◌else◌
  refused_for e = go (well_formed t) refl e
    where
      go : (f : Bool) → well_formed t ≡ f → (provided f then located kind p driver j (state_of t) else refused 2) ≡ refused n → RefusedFor kind p driver j t n
      go true q e = let (some, same) = is_refused (state_of t) kind p driver j n e in by_row q (λ z. some (same ∙ z)) same
      go false q e = no_table (cc) q

  refused_back : RefusedFor kind p driver j t n → locate kind p driver j t ≡ refused n
  unfolding locate first_of provided◌then◌else◌
  refused_back (no_table e f) = rw f (ap refused (sym e))
  refused_back (no_process e f h) = rw f (by_number e (rw (le-ltb p (length b.processes) h)))
  refused_back (no_driver e f h none) =
      let past : length b.drivers ≤ k = elim (dec_lt k (length b.drivers)) [ yes here ↦ absurd (none k here (place_number b.drivers driver here)) | no h ↦ omega (arith, h) ] in
      rw f (by_number e (rw (lt-ltb p (length b.processes) h, le-ltb k (length b.drivers) past)))
  refused_back (no_buffer e f h i here number why) =
      let same : k ≡ i = number_place b driver i (good_of (state_of t) (well_formed_good t f)).board here number in
      let lacks : has_buffer kind b k j ≡ false = subst (λ y. has_buffer kind b y j ≡ false) (sym same) ((no_buffer_lem b i j kind).1 why) in
      rw f (by_number e (rw (lt-ltb p (length b.processes) h, lt-ltb k (length b.drivers) (omega (arith, same, here)), lacks)))

pub tells_where : TellsWhere locate
tells_where = record {
  tells = λ kind p driver j t area x. (told_exactly t kind p driver j area x, told_back t kind p driver j area x);
  refuses = λ kind p driver j t n. (refused_for t kind p driver j n, refused_back t kind p driver j n);
}

-- so it is the one that answers so
pub one_answer : (locate' : Kind → (p driver j : ℕ) → List ℕ → Located) → TellsWhere locate' → (kind : Kind) (p driver j : ℕ) (t : List ℕ) → locate' kind p driver j t ≡ locate kind p driver j t
one_answer locate' s kind p driver j t = go (locate kind p driver j t) refl
  where
    go : (r : Located) → locate kind p driver j t ≡ r → locate' kind p driver j t ≡ locate kind p driver j t
    go (lies area x) e = (s.tells kind p driver j t area x).1 ((tells_where.tells kind p driver j t area x).0 e) ∙ sym e
    go (refused n) e = (s.refuses kind p driver j t n).1 ((tells_where.refuses kind p driver j t n).0 e) ∙ sym e
