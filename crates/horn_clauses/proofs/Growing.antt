-- The marks of the least model come about one by one.
use Rattle.std.proofs.Common.{◌≡◌, ℕ, ◌<◌, ◌≤◌, ◌⊎◌, Bool, true, false, zero, suc, List, length, replicate, get_or, set, refl, sym, ap, subst, ◌∙◌, arith, inl, inr, ⊎_elim}
use Rattle.std.specs.List.{All, Contains}
use Rattle.std.proofs.lemmas.Bool.{cases_lt}
use Rattle.std.proofs.lemmas.List.{get_or-set_same, get_or_past, length-set, length-replicate}
use Rattle.std.proofs.lemmas.List.Elements.{All-contains, All-from_get_or}
use Rattle.horn_clauses.specs.declared.clause.Clause.{Clause}
use Rattle.horn_clauses.specs.Growing.{Grown, none_yet, one_more}
use Rattle.horn_clauses.specs.Laws.{ModelIsGrown}
use Rattle.horn_clauses.specs.Marks.{IsWithin, IsHeld, AreSound}
use Rattle.horn_clauses.proofs.Models.{derived_holds, fires, held_more, sound_more, model_one}
use Rattle.horn_clauses.proofs.Waits.{sound_start}

-- marks that came about keep those that were there, and have what is asked for
record Grows (count : ℕ) (clauses : List Clause) (marks : List Bool) (asked : ℕ → Type 0) : Type 0 where
  more : List Bool
  grown : Grown count clauses more
  keeps : (a : ℕ) → IsHeld marks a → IsHeld more a
  has : (a : ℕ) → asked a → IsHeld more a

pub grown_len : (count : ℕ) (clauses : List Clause) {marks : List Bool} → Grown count clauses marks → length marks ≡ count
grown_len count clauses none_yet = length-replicate count false
grown_len count clauses (one_more {marks = m} g c listed body) = length-set m c.head true ∙ grown_len count clauses g

-- what is marked one by one can be derived
pub grown_sound : (count : ℕ) (clauses : List Clause) {marks : List Bool} → Grown count clauses marks → AreSound clauses marks
grown_sound count clauses none_yet = sound_start clauses _ count refl
grown_sound count clauses (one_more {marks = m} g c listed body) =
    let sound = grown_sound count clauses g in
    sound_more clauses m c.head sound (fires clauses m c sound listed body)

-- an atom that can come to be marked after any marks
CanGrow : (count : ℕ) (clauses : List Clause) → ℕ → Type 0
CanGrow count clauses a = (marks : List Bool) → Grown count clauses marks → Grows count clauses marks (λ b. b ≡ a)

-- where each atom of a body can come to be marked, all before a place can
front_grows : (count : ℕ) (clauses : List Clause) (body : List ℕ) → ((k : ℕ) → k < length body → CanGrow count clauses (get_or body k 0)) →
    (n : ℕ) → n ≤ length body → (marks : List Bool) → Grown count clauses marks →
    Grows count clauses marks (λ b. (k : ℕ) × (k < n) × (get_or body k 0 ≡ b))
unfolding CanGrow
front_grows count clauses body each zero l marks g = record {
  more = marks;
  grown = g;
  keeps = λ a h. h;
  has = λ a asked. let low : asked.0 < 0 = asked.1 in absurd (omega arith);
}
front_grows count clauses body each (suc n) l marks g =
    let before = front_grows count clauses body each n (omega arith) marks g in
    let here = each n (omega arith) before.more before.grown in
    record {
      more = here.more;
      grown = here.grown;
      keeps = λ a h. here.keeps a (before.keeps a h);
      has = λ a asked.
          let within : asked.0 < suc n = asked.1 in
          ⊎_elim
          (λ low. here.keeps a (before.has a (asked.0, low, asked.2)))
          (λ high.
          let e : asked.0 ≡ n = omega arith in
          here.has a (sym asked.2 ∙ ap (λ k. get_or body k 0) e))
          (cases_lt asked.0 n);
    }

-- where each atom of a clause's body can come to be marked, so can the head
head_grows : (count : ℕ) (clauses : List Clause) → All (IsWithin count) clauses → (c : Clause) → Contains clauses c →
    ((k : ℕ) → k < length c.body.items → CanGrow count clauses (get_or c.body.items k 0)) → CanGrow count clauses c.head
unfolding CanGrow
head_grows count clauses within c listed each marks g =
    let body = front_grows count clauses c.body.items each (length c.body.items) (omega arith) marks g in
    let head_in : c.head < length body.more =
    subst (λ n. c.head < n) (sym (grown_len count clauses body.grown)) (All-contains (IsWithin count) clauses c within listed).head in
    record {
      more = set body.more c.head true;
      grown = one_more body.grown c listed (All-from_get_or (IsHeld body.more) c.body.items 0 (λ k l. body.has (get_or c.body.items k 0) (k, l, refl)));
      keeps = λ a h. held_more body.more c.head a head_in (body.keeps a h);
      has = λ a e. ap (λ x. get_or (set body.more c.head true) x false) e ∙ get_or-set_same body.more c.head true false head_in;
    }

true_or_false : (b : Bool) → (b ≡ true) ⊎ (b ≡ false)
true_or_false true = inl refl
true_or_false false = inr refl

-- the marks with one more atom, where that one is marked
take_one : (count : ℕ) (clauses : List Clause) → All (IsWithin count) clauses → (marks : List Bool) → AreSound clauses marks →
    (n : ℕ) (before : List Bool) → Grown count clauses before → Grows count clauses before (λ a. (a ≡ n) × IsHeld marks a)
unfolding CanGrow
take_one count clauses within marks sound n before g =
    ⊎_elim
    (λ marked.
    let more = derived_holds clauses (CanGrow count clauses) (head_grows count clauses within) (sound n marked) before g in
    record { more = more.more; grown = more.grown; keeps = more.keeps; has = λ a asked. more.has a asked.0 })
    (λ unmarked. record {
      more = before;
      grown = g;
      keeps = λ a h. h;
      has = λ a asked. let e : get_or marks a false ≡ false = ap (λ x. get_or marks x false) asked.0 ∙ unmarked in let t = asked.1 in cc;
    })
    (true_or_false (get_or marks n false))

-- marks that came about and have all marked atoms below a number
record HasBelow (count : ℕ) (clauses : List Clause) (marks : List Bool) (n : ℕ) : Type 0 where
  more : List Bool
  grown : Grown count clauses more
  has : (a : ℕ) → a < n → IsHeld marks a → IsHeld more a

below_grows : (count : ℕ) (clauses : List Clause) → All (IsWithin count) clauses → (marks : List Bool) → AreSound clauses marks →
    (n : ℕ) → HasBelow count clauses marks n
below_grows count clauses within marks sound zero = record {
  more = replicate count false;
  grown = none_yet;
  has = λ a l. absurd (omega arith);
}
below_grows count clauses within marks sound (suc n) =
    let before = below_grows count clauses within marks sound n in
    let here = take_one count clauses within marks sound n before.more before.grown in
    record {
      more = here.more;
      grown = here.grown;
      has = λ a l held. ⊎_elim
          (λ low. here.keeps a (before.has a low held))
          (λ high. here.has a (omega arith, held))
          (cases_lt a n);
    }

pub model_grown : ModelIsGrown
model_grown count clauses marks within m =
    let all = below_grows count clauses within marks m.sound count in
    let same : all.more ≡ marks = model_one count clauses all.more marks (record {
      len = grown_len count clauses all.grown;
      sound = grown_sound count clauses all.grown;
      complete = λ a d.
          let held = m.complete a d in
          ⊎_elim
          (λ low. all.has a (subst (λ n. a < n) m.len low) held)
          (λ past. let no = get_or_past marks a false past in cc)
          (cases_lt a (length marks));
    }) m in
    subst (Grown count clauses) same all.grown
