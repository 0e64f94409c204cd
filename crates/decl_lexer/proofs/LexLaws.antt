-- A text has its tokens or a fault, and one of them only.
use Rattle.std.proofs.Common.{◌≡◌, ℕ, zero, suc, ◌+◌, ◌<◌, ◌≤◌, List, [], ◌∷◌, length, refl, sym, ap, subst, ◌⊎◌, inl, inr, arith}
use Rattle.decl_lexer.specs.Lexing.{Placed, width, First, End, Found, Broken, Finds, Lexes, ends, goes_on, Faults, here, later, AreInOrder}
use Rattle.decl_lexer.proofs.Rests.{IsPieceRule}
use Rattle.decl_lexer.proofs.Firsts.{one_first, same_first, ahead, IsAhead}

-- what follows the token that comes first
abbrev LexesFrom : List Placed → First → Type 0
LexesFrom tokens End = ⊥
LexesFrom tokens (Broken rule place) = ⊥
LexesFrom tokens (Found token rest) = Lexes token.to rest tokens

abbrev FaultsFrom : ℕ → ℕ → First → Type 0
FaultsFrom rule place End = ⊥
FaultsFrom rule place (Broken r p) = ⊥
FaultsFrom rule place (Found token rest) = Faults rule place token.to rest

abbrev token_of : Placed → First → Placed
token_of other (Found token rest) = token
token_of other End = other
token_of other (Broken rule place) = other

pub one_list : (at : ℕ) (cs : List ℕ) (ts us : List Placed) → Lexes at cs ts → Lexes at cs us → ts ≡ us
one_list _ _ _ _ (ends at cs f) (ends _ _ g) = refl
one_list _ _ _ _ (ends at cs f) (goes_on _ _ rest u us g m) = let e = same_first at cs End (Found u rest) f g in absurd cc
one_list _ _ _ _ (goes_on at cs rest t ts f l) (ends _ _ g) = let e = same_first at cs (Found t rest) End f g in absurd cc
one_list _ _ _ _ (goes_on at cs rest t ts f l) (goes_on _ _ rest' u us g m) =
    let e = same_first at cs (Found t rest) (Found u rest') f g in
    let others = one_list t.to rest ts us l (subst (LexesFrom us) (sym e) m) in
    let first : t ≡ u = ap (token_of t) e in
    rw (first, others) refl

pub never_both : (rule place at : ℕ) (cs : List ℕ) (ts : List Placed) → Lexes at cs ts → Faults rule place at cs → ⊥
never_both rule place _ _ _ (ends at cs f) (here _ _ g) = let e = same_first at cs End (Broken rule place) f g in absurd cc
never_both rule place _ _ _ (ends at cs f) (later _ _ rest t g m) = let e = same_first at cs End (Found t rest) f g in absurd cc
never_both rule place _ _ _ (goes_on at cs rest t ts f l) (here _ _ g) = let e = same_first at cs (Found t rest) (Broken rule place) f g in absurd cc
never_both rule place _ _ _ (goes_on at cs rest t ts f l) (later _ _ rest' u g m) =
    let e = same_first at cs (Found t rest) (Found u rest') f g in
    never_both rule place t.to rest ts l (subst (FaultsFrom rule place) (sym e) m)

abbrev rule_of : First → ℕ
rule_of End = 0
rule_of (Found token rest) = 0
rule_of (Broken rule place) = rule

abbrev place_of : First → ℕ
place_of End = 0
place_of (Found token rest) = 0
place_of (Broken rule place) = place

pub one_fault : (rule place other elsewhere at : ℕ) (cs : List ℕ) → Faults rule place at cs → Faults other elsewhere at cs → (rule ≡ other) × (place ≡ elsewhere)
one_fault rule place other elsewhere _ _ (here at cs f) (here _ _ g) =
    let e = same_first at cs (Broken rule place) (Broken other elsewhere) f g in (ap rule_of e, ap place_of e)
one_fault rule place other elsewhere _ _ (here at cs f) (later _ _ rest t g m) = let e = same_first at cs (Broken rule place) (Found t rest) f g in absurd cc
one_fault rule place other elsewhere _ _ (later at cs rest t f l) (here _ _ g) = let e = same_first at cs (Found t rest) (Broken other elsewhere) f g in absurd cc
one_fault rule place other elsewhere _ _ (later at cs rest t f l) (later _ _ rest' u g m) =
    let e = same_first at cs (Found t rest) (Found u rest') f g in
    one_fault rule place other elsewhere t.to rest l (subst (FaultsFrom other elsewhere) (sym e) m)

abbrev pub Reads : ℕ → List ℕ → Type 0
Reads at cs = ((ts : List Placed) × Lexes at cs ts) ⊎ ((rule : ℕ) × (place : ℕ) × Faults rule place at cs)

reads_below : (n at : ℕ) (cs : List ℕ) → length cs < n → Reads at cs
reads_below zero at cs lt = absurd (omega arith)
reads_below (suc n) at cs lt = let one = one_first at cs in by_first (one.0) (one.1) (λ bt ds less. reads_below n bt ds less)
  where
    by_first : (x : First) → Finds at cs x → ((bt : ℕ) (ds : List ℕ) → length ds < n → Reads bt ds) → Reads at cs
    by_first End f below = inl ([], ends at cs f)
    by_first (Broken rule place) f below = inr (rule, place, here at cs f)
    by_first (Found t rest) f below =
        let known : IsAhead at cs t rest = ahead at cs (Found t rest) f in
        elim (below t.to rest (omega (arith, known.less))) [
          | inl more ↦ inl (t ∷ more.0, goes_on at cs rest t more.0 f more.1)
          | inr fault ↦ inr (fault.0, fault.1, later at cs rest t f fault.2)
        ]

pub some_reading : (at : ℕ) (cs : List ℕ) → Reads at cs
some_reading at cs = reads_below (suc (length cs)) at cs (omega arith)

pub in_order : (at : ℕ) (cs : List ℕ) (ts : List Placed) → Lexes at cs ts → AreInOrder at (at + width cs) ts
in_order _ _ _ (ends at cs f) = omega arith
in_order _ _ _ (goes_on at cs rest t ts f l) =
    let known : IsAhead at cs t rest = ahead at cs (Found t rest) f in
    let others = in_order t.to rest ts l in
    let P : ℕ → Type 0 = λ n. AreInOrder t.to n ts in
    (known.begins, known.some, subst P known.place others)

pub order_from : (from earlier to : ℕ) (ts : List Placed) → earlier ≤ from → AreInOrder from to ts → AreInOrder earlier to ts
order_from from earlier to [] le h = omega (arith, h)
order_from from earlier to (t ∷ ts) le h = (omega (arith, h.0), h.1, h.2)

pub at_most : (from to : ℕ) (ts : List Placed) → AreInOrder from to ts → from + length ts ≤ to
at_most from to [] h = omega (arith, h)
at_most from to (t ∷ ts) h = let others = at_most t.to to ts h.2 in omega (arith, others, h.0, h.1)

pub fault_known : (rule place at : ℕ) (cs : List ℕ) → Faults rule place at cs → IsPieceRule rule × (place ≤ at + width cs)
fault_known rule place _ _ (here at cs f) = ahead at cs (Broken rule place) f
fault_known rule place _ _ (later at cs rest t f more) =
    let known : IsAhead at cs t rest = ahead at cs (Found t rest) f in
    let others = fault_known rule place t.to rest more in
    (others.0, omega (arith, known.place, others.1))
