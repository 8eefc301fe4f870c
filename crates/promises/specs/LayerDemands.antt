-- Demands 2 and 3 of the layer, and that it hides a denied driver: a list of its calls is the definition's run, of which they hold.
use Rattle.std.specs.Prelude.{ℕ, ◌≡◌, refl, Bool, true, List, [], ◌∷◌}
use Rattle.std.proofs.Common.{sym, ap, ap₂, ◌∙◌, subst}
use Rattle.definition.specs.Tests.{provided◌then◌else◌}
use Rattle.definition.specs.Answer.{Answer, fetched, changes_nothing}
use Rattle.definition.specs.Decide.{Action, fetch}
use Rattle.definition.specs.World.{Step, own, Out}
use Rattle.definition.specs.Runs.{is_own, is_heard, run, answers_to, all_answers}
use Rattle.definition.specs.Image.{board_of}
use Rattle.definition.specs.Table.{Lent, table_step, start}
use Rattle.definition.specs.Without.{words_without}
use Rattle.laws.specs.Unchanged.{unchanged}
use Rattle.layer.specs.Steps.{lent, gave, Starts}
use Rattle.layer.specs.StatementLaws.{fetch_whole}
use Rattle.bridge.specs.Calls.{number_to, part_to, Called, called, evented, resumed, deposited, handed, located, found, latched, Ran, ended, next}
use Rattle.promises.specs.History.{Heard, heard, history_of}
use Rattle.promises.specs.Promises.{after, answers_of, history, next_of, Isolated, Accounted}
use Rattle.promises.specs.Demand3.{isolation}
use Rattle.promises.specs.Demand2.{accounting}
use Rattle.promises.specs.Hidden.{hidden}
use Rattle.promises.specs.LayerPromises.{answers_for, history_for, LayerAccounting, LayerIsolation, LayerHiding}

-- ---- a call is the definition's step

module _ (p driver j offset n : ℕ) (x : Lent) where
  -- a fetch is known by its answer: it changes nothing that is lent
  fetch_is : {r : Answer} → (table_step (own p (fetch driver j offset n)) x).answer ≡ r → changes_nothing r ≡ true → table_step (own p (fetch driver j offset n)) x ≡ gave r x
  fetch_is e nothing = λ i. gave (e i) (unchanged.tables (own p (fetch driver j offset n)) x (ap changes_nothing e ∙ nothing) i)

  -- and its answer by its number
  numbered : {number : ℕ} → number ≡ number_to (own p (fetch driver j offset n)) x
      → table_step (own p (fetch driver j offset n)) x ≡ gave (fetched number (part_to (own p (fetch driver j offset n)) x)) x
  numbered e = fetch_is (fetch_whole p driver j offset n x ∙ ap (λ (k : ℕ). fetched k (part_to (own p (fetch driver j offset n)) x)) (sym e)) refl

pub call_is : {s : Step} {x : Lent} {r : Answer} {y : Lent} → Called s x r y → table_step s x ≡ gave r y
call_is (called c) = c _
call_is (evented c) = c _ _
call_is (resumed c) = c _ _
call_is (deposited c) = c _
call_is (handed e is) = numbered _ _ _ _ _ _ e
call_is (located e lies) = numbered _ _ _ _ _ _ e
call_is (found finds) = fetch_is _ _ _ _ _ _ finds.answer refl
call_is (latched c) = c _ _

-- ---- a list of calls is the definition's run

-- all answers, of which some are asked for
picked : (f : Step → Bool) (l : List Step) (x : Lent) → answers_for f l (all_answers table_step l x) ≡ answers_to table_step f l x
unfolding answers_for answers_to provided◌then◌else◌
picked f [] x = refl
picked f (s ∷ l) x = ap (λ (rest : List Answer). provided f s then (table_step s x).answer ∷ rest else rest) (picked f l (table_step s x).after)

-- a process's history
heard_so : (a : ℕ) (l : List Step) (x : Lent) (hs : List Heard) → history_for a l (all_answers table_step l x) hs ≡ history_of table_step a l x hs
unfolding history_for history_of answers_to provided◌then◌else◌
heard_so a [] x hs = refl
heard_so a (s ∷ l) x hs = heard_so a l (table_step s x).after (heard a s (table_step s x).answer hs)

pub record Same (l : List Step) (x : Lent) (answers : List Answer) (y : Lent) : Type 0 where
  pub given : answers ≡ all_answers table_step l x
  pub left : y ≡ after l x

-- the answers, and all that is lent, after a list of calls are those of the definition's run
pub layer_runs : {l : List Step} {x : Lent} {answers : List Answer} {y : Lent} → Ran l x answers y → Same l x answers y
unfolding answers_to run provided◌then◌else◌
layer_runs (ended x) = record { given = refl; left = refl }
layer_runs (next {s} {l} {r} {answers} {x} {y} {z} c ran) =
    let e = call_is c in
    let rest = layer_runs ran in
    let y_is : y ≡ (table_step s x).after = sym (ap (λ (o : Out Lent). o.after) e) in
    record {
      given = ap₂ ◌∷◌ (sym (ap (λ (o : Out Lent). o.answer) e)) (rest.given ∙ ap (all_answers table_step l) y_is);
      left = rest.left ∙ ap (after l) y_is;
    }

-- ---- what holds of the definition's run holds of them

-- a call of start
began : (words t m f t' : List ℕ) (r : Answer) → Starts words t r t' → ((start words (lent t m f)).answer ≡ r) × ((start words (lent t m f)).after ≡ lent t' m f)
began words t m f t' r begun = (ap (λ (o : Out Lent). o.answer) (begun m f), ap (λ (o : Out Lent). o.after) (begun m f))

-- the answers to some steps of a list of calls
picked_so : {l : List Step} {x : Lent} {answers : List Answer} {y : Lent} (f : Step → Bool) → Ran l x answers y → answers_for f l answers ≡ answers_to table_step f l x
picked_so {l} {x} f ran = ap (answers_for f l) (layer_runs ran).given ∙ picked f l x

pub layer_isolation : LayerIsolation
layer_isolation words t m f t' begun a h l none answers y ran =
    let (e, here) = began words t m f t' _ begun in
    let x : Lent = lent t' m f in
    let i = subst (λ z. Isolated (board_of words) a l z (answers_of a l z) (after l z)) here (isolation words (lent t m f) e a h l none) in
    let r = layer_runs ran in
    subst (λ given. Isolated (board_of words) a l x given y) (sym (picked_so (is_own a) ran)) (subst (Isolated (board_of words) a l x (answers_of a l x)) (sym r.left) i)

pub layer_accounting : LayerAccounting
layer_accounting words t m f t' begun a h l answers y ran said calls =
    let (e, here) = began words t m f t' _ begun in
    let x : Lent = lent t' m f in
    let i = subst (λ z. Accounted (board_of words) a z (history a l z) (after l z) (next_of a l z)) here (accounting words (lent t m f) e a h l) in
    let r = layer_runs ran in
    let told : history_for a l answers [] ≡ history a l x = ap (λ rs. history_for a l rs []) r.given ∙ heard_so a l x [] in
    let answered : (action : Action) → said action ≡ next_of a l x action = λ action. sym (ap (λ (o : Out Lent). o.answer) (call_is (calls action).1)) ∙ ap (λ z. (table_step (own a action) z).answer) r.left in
    subst (λ hs. Accounted (board_of words) a x hs y said) (sym told) (subst (λ z. Accounted (board_of words) a x (history a l x) z said) (sym r.left)
    (subst (Accounted (board_of words) a x (history a l x) (after l x)) (sym (λ i action. answered action i)) i))

pub layer_hiding : LayerHiding
layer_hiding words t m f t' begun a ha k hk denied l l' same quiet first u begun' answers answers' y y' ran ran' =
    let (e, here) = began words t m f t' _ begun in
    let (e', here') = began (words_without k words) t m f u first begun' in
    let h = hidden words (lent t m f) e a ha k hk denied l l' same quiet in
    let told = picked_so (is_heard a) ran ∙ ap (answers_to table_step (is_heard a) l) (sym here) in
    let told' = picked_so (is_heard a) ran' ∙ ap (answers_to table_step (is_heard a) l') (sym here') in
    record { starts = sym e' ∙ h.starts; alike = told ∙ h.alike ∙ sym told'; alone = told' ∙ h.alone }
