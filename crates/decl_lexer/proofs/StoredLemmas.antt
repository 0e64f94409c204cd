-- Lists that grow leave the tokens as they were.
use Rattle.std.proofs.Common.{◌≡◌, ℕ, zero, suc, Bool, true, false, cond, List, [], ◌∷◌, ◌++◌, map, length, Some, refl, sym, ap, ◌∙◌, subst, append_assoc}
use Rattle.std.specs.Prelude.{slice_get}
use Rattle.std.specs.declared.rc.RcStr.{RcStr}
use Rattle.std.specs.Global.{Global}
use Rattle.std.specs.List.{find}
use Rattle.std.proofs.lemmas.List.{append-nil, map-append}
use Rattle.std.proofs.lemmas.Option.{same_Some}
use Rattle.decl_lexer.specs.Lexing.{Placed}
use Rattle.decl_lexer.specs.declared.stored.Lists.{Lists}
use Rattle.decl_lexer.specs.declared.stored.Stored.{Stored}
use Rattle.decl_lexer.specs.Begins.{Named}
use Rattle.decl_lexer.specs.Stored.{lexeme_in, name_entry, placed_in, Grew, Grows, IsEntry}

get_front : {A : Type 0} (xs ys : List A) (i : ℕ) (x : A) → slice_get xs i ≡ Some x → slice_get (xs ++ ys) i ≡ Some x
get_front [] ys i x h = absurd cc
get_front (y ∷ xs) ys zero x h = h
get_front (y ∷ xs) ys (suc i) x h = get_front xs ys i x h

get_next : {A : Type 0} (xs : List A) (y : A) (ys : List A) → slice_get (xs ++ y ∷ ys) (length xs) ≡ Some y
get_next [] y ys = refl
get_next (x ∷ xs) y ys = get_next xs y ys

pub grew_same : {A : Type 0} (xs : List A) → Grew xs xs
grew_same xs = ([], sym (append-nil xs))

grew_on : {A : Type 0} (xs ys zs : List A) → Grew xs ys → Grew ys zs → Grew xs zs
grew_on xs ys zs g h = (g.0 ++ h.0, h.1 ∙ (ap (λ l. l ++ h.0) g.1 ∙ append_assoc xs g.0 h.0))

-- what is found passes the test
pub found_passes : {A : Type 0} (test : A → Bool) (xs : List A) (x : A) → find test xs ≡ Some x → test x ≡ true
found_passes test [] x h = absurd cc
found_passes {A} test (y ∷ ys) x h = go (test y) refl h (found_passes test ys x)
  where
    go : (b : Bool) → test y ≡ b → cond b (Some y) (find test ys) ≡ Some x → (find test ys ≡ Some x → test x ≡ true) → test x ≡ true
    go true e f later = subst (λ z. test z ≡ true) (same_Some y x f) e
    go false e f later = later f

-- an entry stays where it is
pub get_in_longer : {A : Type 0} (xs ys : List A) (i : ℕ) (x : A) → Grew xs ys → slice_get xs i ≡ Some x → slice_get ys i ≡ Some x
get_in_longer xs ys i x g h = subst (λ l. slice_get l i ≡ Some x) (sym g.1) (get_front xs g.0 i x h)

-- an entry that was appended stays where it is
pub get_pushed : {A : Type 0} (old new longer : List A) (x : A) (n : ℕ) → new ≡ old ++ x ∷ [] → n ≡ length old → Grew new longer → slice_get longer n ≡ Some x
get_pushed old new longer x n e k g =
    get_in_longer new longer n x g
    (subst (λ l. slice_get l n ≡ Some x) (sym e) (subst (λ m. slice_get (old ++ x ∷ []) m ≡ Some x) (sym k) (get_next old x [])))

pub grows_same : (l : Lists) → Grows l l
grows_same l = (grew_same l.names.keys, grew_same l.large.items, grew_same l.integers.items, grew_same l.texts.items)

pub grows_on : (a b c : Lists) → Grows a b → Grows b c → Grows a c
grows_on a b c g h = (
  grew_on a.names.keys b.names.keys c.names.keys g.0 h.0,
  grew_on a.large.items b.large.items c.large.items g.1 h.1,
  grew_on a.integers.items b.integers.items c.integers.items g.2 h.2,
  grew_on a.texts.items b.texts.items c.texts.items g.3 h.3,
)

-- the tokens with one more, in lists that grew
pub one_more : (lists between longer : Lists) (stored : List Stored) (t : Stored) (placed : Placed) →
    ((l : Lists) → Grows lists l → map (placed_in l) stored ≡ map (placed_in lists) stored) →
    Grows lists between → Grows between longer → placed_in longer t ≡ placed →
    map (placed_in longer) (stored ++ t ∷ []) ≡ map (placed_in lists) stored ++ placed ∷ []
one_more lists between longer stored t placed whole g h shown =
    map-append (placed_in longer) stored (t ∷ [])
    ∙ (ap (λ xs. xs ++ placed_in longer t ∷ []) (whole longer (grows_on lists between longer g h))
    ∙ ap (λ p. map (placed_in lists) stored ++ p ∷ []) shown)

-- a name stays where it is
pub name_shown : (keys longer : List (RcStr Global)) (bytes : List ℕ) (n : ℕ) (raw : Bool) → IsEntry bytes (slice_get keys n) → Grew keys longer → name_entry raw (slice_get longer n) ≡ Named bytes raw
name_shown keys longer bytes n raw e g = ap (name_entry raw) (get_in_longer keys longer n e.0 g e.1) ∙ ap (λ b. Named b raw) e.2

-- a token that was added is the last one
pub pushed : (lists between longer : Lists) (stored new : List Stored) (t : Stored) (token : Placed) →
    ((l : Lists) → Grows lists l → map (placed_in l) stored ≡ map (placed_in lists) stored) →
    Grows lists between → Grows between longer → new ≡ stored ++ t ∷ [] → lexeme_in longer t.kind ≡ token.lexeme → t.from ≡ token.from → t.to ≡ token.to →
    map (placed_in longer) new ≡ map (placed_in lists) stored ++ token ∷ []
pushed lists between longer stored new t token whole g h e kind from to =
    let shown : placed_in longer t ≡ token = rw (kind, from, to) refl in
    ap (map (placed_in longer)) e ∙ one_more lists between longer stored t token whole g h shown
