-- Models of Horn clauses.
use Rattle.std.proofs.Common.{◌≡◌, ℕ, ◌<◌, Bool, true, false, zero, suc, List, [], ◌∷◌, length, get_or, set, refl, sym, subst, ◌∙◌, arith, ⊎_elim}
use Rattle.std.specs.Prelude.{IsTrue}
use Rattle.std.specs.List.{All, Contains}
use Rattle.std.proofs.lemmas.List.{get_or-set_same, get_or-set_other, same_lists, get_or_default}
use Rattle.std.proofs.lemmas.List.Elements.{All-contains, All-from_get_or}
use Rattle.std.proofs.lemmas.Bool.{cases_eq}
use Rattle.horn_clauses.specs.declared.clause.Clause.{Clause}
use Rattle.horn_clauses.specs.Derivations.{Derives, by_clause}
use Rattle.horn_clauses.specs.Marks.{IsHeld, HoldsThroughout, AreSound, IsClosed}
use Rattle.horn_clauses.specs.Laws.{ModelIsClosed, ModelIsLeast, ModelIsOne}

-- each predicate that is closed under the clauses holds of what can be derived
pub derived_holds : (clauses : List Clause) (P : ℕ → Type 0) →
    ((c : Clause) → Contains clauses c → ((k : ℕ) → k < length c.body.items → P (get_or c.body.items k 0)) → P c.head) →
    {a : ℕ} → Derives clauses a → P a
derived_holds clauses P closed (by_clause c listed body) = closed c listed (λ k l. derived_holds clauses P closed (body k l))

pub derived_closed : ModelIsClosed
derived_closed clauses c listed body = by_clause c listed (λ k l. body k 0 l)

pub derived_least : ModelIsLeast
derived_least clauses holds closed a d =
    derived_holds clauses (λ x. IsTrue (holds x))
    (λ c listed body. All-contains (λ (x : Clause). All (λ y. IsTrue (holds y)) x.body.items → IsTrue (holds x.head)) clauses c closed listed
    (All-from_get_or (λ y. IsTrue (holds y)) c.body.items 0 body)) d

-- marks that are closed have what can be derived
pub closed_complete : (clauses : List Clause) (marks : List Bool) → IsClosed clauses marks → (a : ℕ) → Derives clauses a → IsHeld marks a
closed_complete clauses marks closed a d =
    derived_holds clauses (IsHeld marks)
    (λ c listed body. All-contains (λ (x : Clause). HoldsThroughout marks x.body.items → IsHeld marks x.head) clauses c closed listed
    (All-from_get_or (IsHeld marks) c.body.items 0 body)) d

-- where the body of a clause is marked, its head can be derived
pub fires : (clauses : List Clause) (marks : List Bool) (c : Clause) → AreSound clauses marks → Contains clauses c →
    HoldsThroughout marks c.body.items → Derives clauses c.head
fires clauses marks c sound listed body = by_clause c listed (λ k l. sound (get_or c.body.items k 0) (body k 0 l))

-- a mark stays where another is made
pub held_more : (marks : List Bool) (h a : ℕ) → h < length marks → IsHeld marks a → IsHeld (set marks h true) a
held_more marks h a within held =
    ⊎_elim (λ e. subst (λ x. IsHeld (set marks h true) x) (sym e) (get_or-set_same marks h true false within))
    (λ n. get_or-set_other marks h a true false n ∙ held)
    (cases_eq a h)

-- the marks stay sound where an atom is marked that can be derived
pub sound_more : (clauses : List Clause) (marks : List Bool) (h : ℕ) → AreSound clauses marks → Derives clauses h → AreSound clauses (set marks h true)
sound_more clauses marks h sound d a held =
    ⊎_elim (λ e. subst (Derives clauses) (sym e) d)
    (λ n. sound a (sym (get_or-set_other marks h a true false n) ∙ held))
    (cases_eq a h)

both_ways : (x y : Bool) → (x ≡ true → y ≡ true) → (y ≡ true → x ≡ true) → x ≡ y
both_ways true y f g = sym (f refl)
both_ways false true f g = g refl
both_ways false false f g = refl

pub model_one : ModelIsOne
model_one count clauses marks others m o =
    same_lists marks others (m.len ∙ sym o.len) (λ k d l.
    get_or_default marks k d false l
    ∙ both_ways (get_or marks k false) (get_or others k false) (λ h. o.complete k (m.sound k h)) (λ h. m.complete k (o.sound k h))
    ∙ get_or_default others k false d (subst (λ n. k < n) (m.len ∙ sym o.len) l))

-- how many atoms are not marked
abbrev pub unmarked : List Bool → ℕ
unmarked [] = 0
unmarked (true ∷ bs) = unmarked bs
unmarked (false ∷ bs) = suc (unmarked bs)

-- fewer atoms are left unmarked where one is marked
pub unmarked_falls : (marks : List Bool) (h : ℕ) → h < length marks → get_or marks h false ≡ false →
    unmarked (set marks h true) < unmarked marks
unmarked_falls [] h l e = absurd (omega arith)
unmarked_falls (true ∷ bs) zero l e = cc
unmarked_falls (false ∷ bs) zero l e = omega arith
unmarked_falls (true ∷ bs) (suc h) l e = unmarked_falls bs h (omega arith) e
unmarked_falls (false ∷ bs) (suc h) l e = let r = unmarked_falls bs h (omega arith) e in omega arith
