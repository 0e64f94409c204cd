-- What a text spells, from what its tokens read as.
use Rattle.std.proofs.Common.{◌≡◌, List, [], ◌∷◌, ℕ, Option, Some, None, chars, refl, sym, ap, subst, ◌∙◌, ◌⊎◌, inl}
use Rattle.std.proofs.Common.{inr}
use Rattle.decl_lexer.specs.Lexing.{Placed, HasTokens, HasFault, mark_width, without_mark}
use Rattle.decl_lexer.proofs.LexLaws.{one_list, never_both, some_reading}
use Rattle.decl_lexer.proofs.Valid.{not_valid, valid_or_not}
use Rattle.decl_syntax.specs.Units.{units}
use Rattle.decl_syntax.proofs.Joined.{some_is, bind_some, one_reading}
use Rattle.value_syntax.specs.Trees.{WrittenTree}
use Rattle.value_syntax.specs.Grammar.{SpellsValue, IsWritten}
use Rattle.value_syntax.specs.Laws.{OneWritten, WrittenOrNot}
use Rattle.value_syntax.specs.ValueReading.{value_at, at_end, whole_value}
use Rattle.value_syntax.proofs.ValueLaws.{known_values}

-- bytes have at most one list of tokens
pub same_tokens : (bytes : List ℕ) (ts us : List Placed) → HasTokens bytes ts → HasTokens bytes us → ts ≡ us
same_tokens bytes ts us h k = one_list _ _ ts us h.1 k.1

-- bytes with a fault have no tokens
pub no_tokens : (bytes : List ℕ) (ts : List Placed) (rule place : ℕ) → HasTokens bytes ts → HasFault bytes rule place
    → ⊥
no_tokens bytes ts rule place h k = elim k
    [ inl f ↦ not_valid bytes place h.0 f.1 | inr f ↦ never_both rule place _ _ ts h.1 f.1 ]

ended : (w u : WrittenTree) (ts : List Placed) → at_end w ts ≡ Some u → (w ≡ u) × (ts ≡ [])
ended w u [] e = (some_is w u e, refl)
ended w u (t ∷ ts) e = absurd cc

-- what is read to the end is spelled
pub whole_sound : (ts : List Placed) (w : WrittenTree) → whole_value ts ≡ Some w → SpellsValue 64 ts w []
unfolding whole_value
whole_sound ts w e =
    let x = bind_some (value_at 64 ts) _ w e in
    let d = ended x.0.0 w x.0.1 x.2 in
    let s = (known_values 64).joined.sound ts x.0 x.1 in
    subst (λ u. SpellsValue 64 ts u []) d.0 (subst (λ us. SpellsValue 64 ts x.0.0 us) d.1 s)

-- what is spelled is read to the end
pub whole_complete : (ts : List Placed) (w : WrittenTree) → SpellsValue 64 ts w [] → whole_value ts ≡ Some w
unfolding whole_value
whole_complete ts w s = rw ((known_values 64).joined.complete ts [] w s) refl

-- a text that has these tokens spells no value where they are none
pub none_written : (text : List ℕ) (ts : List Placed) → HasTokens text ts → whole_value (units ts) ≡ None
    → (w : WrittenTree) → IsWritten text w → ⊥
none_written text ts h e w i =
    let same : i.0 ≡ ts = same_tokens text i.0 ts i.1 h in
    let read : whole_value (units ts) ≡ Some w =
    subst (λ us. whole_value (units us) ≡ Some w) same (whole_complete (units i.0) w i.2) in
    absurd cc

-- nor does a text with a fault
pub none_of_fault : (text : List ℕ) (rule place : ℕ) → HasFault text rule place → (w : WrittenTree) → IsWritten text w
    → ⊥
none_of_fault text rule place h w i = no_tokens text i.0 rule place i.1 h

pub one_written : OneWritten
one_written text w u h k =
    let same : h.0 ≡ k.0 = same_tokens text h.0 k.0 h.1 k.1 in
    let s : SpellsValue 64 (units k.0) w [] = subst (λ ts. SpellsValue 64 (units ts) w []) same h.2 in
    (one_reading (SpellsValue 64) (value_at 64) (known_values 64).joined (units k.0) [] [] w u s k.2).0

-- tokens spell a value, or they spell none
abbrev WrittenBy : List ℕ → Type 0
WrittenBy text = ((w : WrittenTree) × IsWritten text w) ⊎ ((w : WrittenTree) → IsWritten text w → ⊥)

by_tokens : (text : List ℕ) (ts : List Placed) → HasTokens text ts → WrittenBy text
by_tokens text ts h = by_case (whole_value (units ts)) refl
  where
    by_case : (o : Option WrittenTree) → whole_value (units ts) ≡ o → WrittenBy text
    by_case None e = inr (none_written text ts h e)
    by_case (Some w) e = inl (w, (ts, h, whole_sound (units ts) w e))

pub written_or_not : WrittenOrNot
written_or_not text =
    elim (valid_or_not text) [
      | inl u ↦ elim (some_reading (mark_width (chars text)) (without_mark (chars text))) [
        | inl t ↦ by_tokens text t.0 (u, t.1)
        | inr f ↦ inr (none_of_fault text f.0 f.1 (inr (u, f.2)))
      ]
      | inr v ↦ inr (none_of_fault text 1 v.0 (inl (refl, v.1)))
    ]

-- what a call that lexes a text and reads its tokens has
pub spelled_by : (text bytes : List ℕ) (ts us : List Placed) (w : WrittenTree) → bytes ≡ text → HasTokens bytes ts
    → us ≡ units ts → whole_value us ≡ Some w → IsWritten text w
spelled_by text bytes ts us w e h s r = (
  ts,
  subst (λ bs. HasTokens bs ts) e h,
  whole_sound (units ts) w (ap whole_value (sym s) ∙ r),
)

pub unspelled_by : (text bytes : List ℕ) (ts us : List Placed) → bytes ≡ text → HasTokens bytes ts → us ≡ units ts
    → whole_value us ≡ None → (w : WrittenTree) → IsWritten text w → ⊥
unspelled_by text bytes ts us e h s r = none_written text ts (subst (λ bs. HasTokens bs ts) e h)
    (ap whole_value (sym s) ∙ r)

pub broken_by : (text bytes : List ℕ) (rule place : ℕ) → bytes ≡ text → HasFault bytes rule place → (w : WrittenTree)
    → IsWritten text w → ⊥
broken_by text bytes rule place e h = none_of_fault text rule place (subst (λ bs. HasFault bs rule place) e h)
