-- Which tables are well formed: a step leaves one so exactly where it was, and a start that is accepted makes one.
use Rattle.std.specs.Prelude.{ℕ, ◌≡◌, refl, Bool, true, false, not, List, [], ◌∷◌, length, eqb}
use Rattle.std.proofs.Common.{sym, ap, ◌∙◌, eqb-true}
use Rattle.std.proofs.lemmas.Bool.{eqb-false, not-false}
use Rattle.definition.specs.Tests.{provided◌then◌else◌, ◌when◌, first_of}
use Rattle.definition.specs.State.{fresh}
use Rattle.definition.specs.Answer.{refused, started}
use Rattle.definition.specs.World.{Step, Out}
use Rattle.definition.specs.Image.{board_of, good_board_words, table_words, image_of, state_of, well_formed}
use Rattle.definition.specs.Table.{Lent, world_of, table_step, start}
use Rattle.laws.specs.Facts.{either, passed}
use Rattle.laws.specs.BoardWords.{board_fits}
use Rattle.laws.specs.Good.{of_good}
use Rattle.laws.specs.Kept.{kept_good, fresh_good}
use Rattle.laws.specs.ImageBack.{image_length, image_well_formed, image_again, well_formed_good}

pub formed_kept : (s : Step) (x : Lent) → well_formed (table_step s x).after.table ≡ well_formed x.table
unfolding table_step
formed_kept s x =
    either (λ (o : Out Lent). well_formed o.after.table ≡ well_formed x.table) _ _ _
    (λ t.
    let well : well_formed x.table ≡ true = not-false _ (passed _ _ _ (passed _ _ _ (eqb-true _ 0 t)).1).0 in
    image_well_formed _ (kept_good s (world_of x) (well_formed_good x.table well)) ∙ sym well)
    (λ _. refl)

-- ---- start

-- a well-formed table has its length
formed_length : (t : List ℕ) → well_formed t ≡ true → length t ≡ table_words
formed_length t e = sym (ap length (image_again t e)) ∙ image_length (state_of t)

short_unformed : (t : List ℕ) → eqb (length t) table_words ≡ false → well_formed t ≡ false
short_unformed t e = go (well_formed t) refl
  where
    go : (b : Bool) → well_formed t ≡ b → b ≡ false
    go true q = absurd (eqb-false (length t) table_words e (formed_length t q))
    go false q = refl

-- the three ways of a start: it is accepted; the board is not good; the table is of another length
pub data Begins (o : Out Lent) : Type 0 where
  accepted : o.answer ≡ started → well_formed o.after.table ≡ true → Begins o
  no_board : o.answer ≡ refused 13 → Begins o
  no_table : o.answer ≡ refused 2 → well_formed o.after.table ≡ false → Begins o

pub start_begins : (words : List ℕ) (x : Lent) → Begins (start words x)
unfolding start first_of provided◌then◌else◌
start_begins words x = go (eqb (length x.table) table_words) (good_board_words words) refl refl
  where
    after : Lent
    after = record { table = image_of (fresh (board_of words)); memory = x.memory; flash = x.flash }

    go : (l g : Bool) → eqb (length x.table) table_words ≡ l → good_board_words words ≡ g
        → Begins (let n = first_of (2 when not l ∷ 13 when not g ∷ []) in provided eqb n 0 then record { answer = started; after = after } else record { answer = refused n; after = x })
    go true true p q = accepted refl (image_well_formed (fresh (board_of words)) (of_good _ (fresh_good (board_of words) (board_fits words q).1)))
    go true false p q = no_board refl
    go false g p q = no_table refl (short_unformed x.table p)
