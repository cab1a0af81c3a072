-- The outcomes of the writer and of the reader, from what was done.
use mathlib.Core.Path.{◌≡◌, refl, sym, ap, ◌∙◌, subst}
use mathlib.Core.List.{List, ◌++◌}
use mathlib.Core.Option.{Option}
use Prim.Native.Nat.{ℕ}
use lib.Ieee.{Float}
use lib.ListN.{length, drop}
use Rattle.machine.specs.Calls.{Answer}
use Rattle.machine.proofs.Refusals.{none_is_some}
use Rattle.storage.specs.Places.{LPlace, UPlace}
use Rattle.storage.specs.Views.{Kept}
use Rattle.managed.specs.Instance.{StateValue, state_value}
use Rattle.card_format.specs.Blocks.{word_at}
use Rattle.card_format.specs.Writing.{card_length, writing}
use Rattle.card_format.specs.Reading.{patterns, reading}
use Rattle.card_format.specs.Answers.{answered}
use Rattle.card_format.proofs.CardLaws.{card_laws}
use Rattle.card_calls.specs.CardCalls.{doubles, held, write_tests, card_under, CardWritten, CardRead}
use Rattle.card_reading.specs.Read.{LRead, URead}
use Rattle.cards.proofs.Passed.{WritePassed, ReadPassed}

pub written : (v : StateValue) (l u : List Float) (old new : List ℕ) (bytes : ℕ) → WritePassed v (length l) (length u) (length old) bytes
    → new ≡ writing (held v l u) ++ drop (card_length v.n) old → CardWritten v l u old new (answered bytes)
written v l u old new bytes p e =
    let w = writing (held v l u) in
    let under : w ++ drop (card_length v.n) old ≡ card_under (write_tests v (length l) (length u) (length old)) w old =
    ap (λ (k : ℕ). w ++ drop k old) (sym (card_laws.long (held v l u)).0) ∙ ap (λ (o : Option Answer). card_under o w old) (sym p.none_refused) in
    record { answered = rw p.none_refused (ap answered p.needed); card = e ∙ under }

pub read : (capacity : ℕ) (l u : List Float) (card : List ℕ) (n counter : ℕ) (l' u' : List Float) → ReadPassed capacity (length l) (length u) card n → LRead capacity n card l l'
    → URead capacity n card u u' → counter ≡ word_at card 16 → CardRead capacity l u card l' u' (answered (state_value n capacity counter))
unfolding patterns
read capacity l u card n counter l' u' p hl hu k =
    let state : state_value n capacity counter ≡ state_value (reading card).state.n capacity (reading card).counter = λ i. state_value (p.dimension i) capacity (k i) in
    record {
      answered = rw p.none_refused (ap answered state);
      untouched = λ a e. absurd (none_is_some p.none_refused e);
      factors = λ e. rw (← p.dimension) (record { n = refl; L = hl.value; U = hu.value });
      l_kept = λ e. subst (λ (m : ℕ). Kept doubles (LPlace capacity m) l l') p.dimension hl.kept;
      u_kept = λ e. subst (λ (m : ℕ). Kept doubles (UPlace capacity m) u u') p.dimension hu.kept;
    }
