-- Block comments nest.
use Rattle.std.proofs.Common.{◌≡◌, ℕ, zero, suc, ◌+◌, ◌-◌, Bool, true, false, cond, ◌&&◌, ◌==◌, List, [], ◌∷◌, ◌++◌, Option, Some, refl, sym, ap, ◌∙◌, arith}
use Rattle.std.proofs.lemmas.Bool.{eqb-true, and_parts, false_from_ne_true}
use Rattle.decl_lexer.specs.Gaps.{comment_end, IsInside, closes, nests, goes_on}
use Rattle.decl_lexer.specs.Text.{begins_with}
use lib.Chars.{codes}

one_less : (d : ℕ) → suc d - 1 ≡ d
one_less d = omega arith

one_more : (d : ℕ) → d + 1 ≡ suc d
one_more d = omega arith

not_zero : (d : ℕ) → (suc d == 0) ≡ false
not_zero d = false_from_ne_true (suc d == 0) (λ e. let same : suc d ≡ 0 = eqb-true (suc d) 0 e in omega arith)

plain_end : (depth c : ℕ) (cs : List ℕ) → begins_with (codes "/*") (c ∷ cs) ≡ false → begins_with (codes "*/") (c ∷ cs) ≡ false → comment_end depth (c ∷ cs) ≡ comment_end depth cs
unfolding comment_end
plain_end depth c [] h k = refl
plain_end depth c (d ∷ cs) h k = rw (h, k) refl

opened : (depth : ℕ) (cs inside : List ℕ) → cs ≡ codes "/*" ++ inside → comment_end depth cs ≡ comment_end (suc depth) inside
unfolding comment_end
opened depth cs inside e = ap (comment_end depth) e ∙ ap (λ (n : ℕ). comment_end n inside) (one_more depth)

closed_last : (cs rest : List ℕ) → cs ≡ codes "*/" ++ rest → comment_end 0 cs ≡ Some rest
unfolding comment_end
closed_last cs rest e = ap (comment_end 0) e

closed_inner : (depth : ℕ) (cs rest : List ℕ) → cs ≡ codes "*/" ++ rest → comment_end (suc depth) cs ≡ comment_end depth rest
unfolding comment_end
closed_inner depth cs rest e = ap (comment_end (suc depth)) e ∙ rw (not_zero depth, one_less depth) refl

pub inside_end : (cs rest : List ℕ) → IsInside cs rest → (comment_end 0 cs ≡ Some rest) × ((depth : ℕ) → comment_end (suc depth) cs ≡ comment_end depth rest)
inside_end _ _ (closes cs rest e) = (closed_last cs rest e, λ depth. closed_inner depth cs rest e)
inside_end _ _ (nests cs inside outside rest e h k) =
    let inner = inside_end inside outside h in
    let outer = inside_end outside rest k in
    (opened 0 cs inside e ∙ inner.1 0 ∙ outer.0, λ depth. opened (suc depth) cs inside e ∙ inner.1 (suc depth) ∙ outer.1 depth)
inside_end _ _ (goes_on c cs rest h k i) =
    let others = inside_end cs rest i in
    (plain_end 0 c cs h k ∙ others.0, λ depth. plain_end (suc depth) c cs h k ∙ others.1 depth)

-- so many comments deep within a comment, and then this
abbrev Deep : ℕ → List ℕ → List ℕ → Type 0
Deep zero cs rest = IsInside cs rest
Deep (suc depth) cs rest = (outside : List ℕ) × IsInside cs outside × Deep depth outside rest

deep_opened : (depth : ℕ) (cs inside rest : List ℕ) → cs ≡ codes "/*" ++ inside → Deep (suc depth) inside rest → Deep depth cs rest
deep_opened zero cs inside rest e h = nests cs inside h.0 rest e h.1 h.2
deep_opened (suc depth) cs inside rest e h = (h.2.0, nests cs inside h.0 h.2.0 e h.1 h.2.1, h.2.2)

deep_plain : (depth c : ℕ) (cs rest : List ℕ) → begins_with (codes "/*") (c ∷ cs) ≡ false → begins_with (codes "*/") (c ∷ cs) ≡ false → Deep depth cs rest → Deep depth (c ∷ cs) rest
deep_plain zero c cs rest h k i = goes_on c cs rest h k i
deep_plain (suc depth) c cs rest h k i = (i.0, goes_on c cs i.0 h k i.1, i.2)

same_pair : (c d x y : ℕ) (cs : List ℕ) → (c == x && d == y) ≡ true → c ∷ d ∷ cs ≡ x ∷ y ∷ cs
same_pair c d x y cs h =
    let parts = and_parts (c == x) (d == y) h in
    rw (eqb-true c x parts.0, eqb-true d y parts.1) refl

some_same : (cs rest : List ℕ) → Some cs ≡ Some rest → cs ≡ rest
some_same cs rest e = cc

abbrev closing : ℕ → List ℕ → Option (List ℕ)
closing depth cs = cond (depth == 0) (Some cs) (comment_end (depth - 1) cs)

deep_closed : (depth c d : ℕ) (cs rest : List ℕ) → (c == 42 && d == 47) ≡ true → closing depth cs ≡ Some rest → ((k : ℕ) → comment_end k cs ≡ Some rest → Deep k cs rest) → Deep depth (c ∷ d ∷ cs) rest
deep_closed zero c d cs rest is h below =
    let same : cs ≡ rest = some_same cs rest h in
    closes (c ∷ d ∷ cs) rest (same_pair c d 42 47 cs is ∙ ap (λ (x : List ℕ). 42 ∷ 47 ∷ x) same)
deep_closed (suc depth) c d cs rest is h below =
    (cs, closes (c ∷ d ∷ cs) cs (same_pair c d 42 47 cs is), below depth (rw (not_zero depth, one_less depth) at h))

deep_by : (depth c d : ℕ) (cs rest : List ℕ) (opens shuts : Bool) → (c == 47 && d == 42) ≡ opens → (c == 42 && d == 47) ≡ shuts
    → cond opens (comment_end (depth + 1) cs) (cond shuts (closing depth cs) (comment_end depth (d ∷ cs))) ≡ Some rest
    → ((k : ℕ) → comment_end k cs ≡ Some rest → Deep k cs rest) → (comment_end depth (d ∷ cs) ≡ Some rest → Deep depth (d ∷ cs) rest) → Deep depth (c ∷ d ∷ cs) rest
deep_by depth c d cs rest true shuts is isnt h below next =
    deep_opened depth (c ∷ d ∷ cs) cs rest (same_pair c d 47 42 cs is) (below (suc depth) (ap (λ (n : ℕ). comment_end n cs) (sym (one_more depth)) ∙ h))
deep_by depth c d cs rest false true is isnt h below next = deep_closed depth c d cs rest isnt h below
deep_by depth c d cs rest false false is isnt h below next = deep_plain depth c (d ∷ cs) rest is isnt (next h)

end_deep : (depth : ℕ) (cs rest : List ℕ) → comment_end depth cs ≡ Some rest → Deep depth cs rest
unfolding comment_end
end_deep depth [] rest h = absurd cc
end_deep depth (c ∷ []) rest h = absurd cc
end_deep depth (c ∷ d ∷ cs) rest h =
    deep_by depth c d cs rest (c == 47 && d == 42) (c == 42 && d == 47) refl refl h (λ k e. end_deep k cs rest e) (λ e. end_deep depth (d ∷ cs) rest e)

pub end_inside : (cs rest : List ℕ) → comment_end 0 cs ≡ Some rest → IsInside cs rest
end_inside cs rest h = end_deep 0 cs rest h
