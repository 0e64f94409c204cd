-- Lists of texts, and what the code asks of a list in their place.
use Rattle.std.proofs.Common.{◌≡◌, ◌∙◌, ap, sym, refl, ℕ, Bool, true, false, List, [], ◌∷◌, ◌++◌, length, map, append_assoc, append-nil, arith, codes}
use Rattle.std.specs.Prelude.{chars, encode_utf8_all, flat_map, IsUtf8, ◌==◌}
use Rattle.std.proofs.lemmas.Str.{chars-encodes}
use Rattle.witness_text.specs.declared.named.NamedWitness.{NamedWitness}
use Rattle.witness_text.specs.declared.named.NamedField.{NamedField}
use Rattle.witness_text.specs.Trees.{witnesses_view, fields_view}
use Rattle.witness_text.specs.declared.named.Style.{Style}
use Rattle.witness_text.specs.Texts.{joined, tuple_end, braced, parts_by, fields_by}
use Rattle.witness_text.specs.Writing.{comma_between, listed, is_behind}
use Rattle.witness_text.proofs.Adding.{five_added}

joined_behind : (t : List ℕ) (ts : List (List ℕ)) → joined (t ∷ ts) ≡ t ++ listed true ts
joined_behind t [] = sym (append-nil t)
joined_behind t (u ∷ ts) = ap (λ z. t ++ (codes ", " ++ z)) (joined_behind u ts)

-- joined texts are written one after the other
pub joined_listed : (ts : List (List ℕ)) → joined ts ≡ listed false ts
joined_listed [] = refl
joined_listed (t ∷ ts) = joined_behind t ts

behind_some : (xs : List (List ℕ)) → is_behind true xs ≡ true
behind_some [] = refl
behind_some (x ∷ xs) = refl

-- texts behind others
listed_append : (later : Bool) (xs ys : List (List ℕ)) → listed later (xs ++ ys) ≡ listed later xs ++ listed (is_behind later xs) ys
listed_append later [] ys = refl
listed_append later (x ∷ xs) ys =
    let rest : listed true (xs ++ ys) ≡ listed true xs ++ listed true ys = listed_append true xs ys ∙ ap (λ b. listed true xs ++ listed b ys) (behind_some xs) in
    ap (λ z. comma_between later ++ (x ++ z)) rest
    ∙ ap (λ z. comma_between later ++ z) (sym (append_assoc x (listed true xs) (listed true ys)))
    ∙ sym (append_assoc (comma_between later) (x ++ listed true xs) (listed true ys))

-- a row, piece by piece
pub row_added : (x0 x1 x2 x3 x4 x5 : List ℕ) (front rest back : List (List ℕ)) (b c : Bool) → b ≡ is_behind false front → c ≡ is_behind b rest →
    x1 ≡ x0 ++ codes "[" → x2 ≡ x1 ++ listed false front → x3 ≡ x2 ++ listed b rest → x4 ≡ x3 ++ listed c back → x5 ≡ x4 ++ codes "]" →
    x5 ≡ x0 ++ (codes "[" ++ (joined (front ++ (rest ++ back)) ++ codes "]"))
row_added x0 x1 x2 x3 x4 x5 front rest back b c is_b is_c e f g h i =
    let first = listed false front in
    let middle = listed b rest in
    let last = listed c back in
    let all : joined (front ++ (rest ++ back)) ≡ first ++ (middle ++ last) =
    joined_listed (front ++ (rest ++ back)) ∙ listed_append false front (rest ++ back) ∙ ap (λ l. first ++ listed l (rest ++ back)) (sym is_b)
    ∙ ap (λ z. first ++ z) (listed_append b rest back ∙ ap (λ l. middle ++ listed l back) (sym is_c)) in
    five_added x0 x1 x2 x3 x4 x5 _ _ _ _ _ e f g h i
    ∙ ap (λ z. x0 ++ (codes "[" ++ z))
    (ap (λ z. first ++ z) (sym (append_assoc middle last (codes "]"))) ∙ sym (append_assoc first (middle ++ last) (codes "]")) ∙ ap (λ z. z ++ codes "]") (sym all))

-- how a tuple of these parts is closed
pub one_closed : (style : Style) (ws : List NamedWitness) → length ws ≡ 1 → tuple_end (parts_by style (witnesses_view ws)) ≡ codes ",)"
one_closed style [] e = absurd (omega arith)
one_closed style (w ∷ []) e = refl
one_closed style (w ∷ v ∷ ws) e = absurd (omega arith)

pub others_closed : (style : Style) (ws : List NamedWitness) → (length ws ≡ 1 → ⊥) → tuple_end (parts_by style (witnesses_view ws)) ≡ codes ")"
others_closed style [] e = refl
others_closed style (w ∷ []) e = absurd (e refl)
others_closed style (w ∷ v ∷ ws) e = refl

-- fields in their braces
pub some_braced : (style : Style) (fs : List NamedField) (bare : Bool) → bare ≡ (length fs == 0) → bare ≡ false →
    braced (fields_by style (fields_view fs)) ≡ codes " { " ++ (listed false (fields_by style (fields_view fs)) ++ codes " }")
some_braced style [] bare e f = absurd cc
some_braced style (f ∷ fs) bare e g = ap (λ z. codes " { " ++ (z ++ codes " }")) (joined_listed (fields_by style (fields_view (f ∷ fs))))

-- the items of a list, each as it is
pub same_items : (xs : List ℕ) → map (λ x. x) xs ≡ xs
same_items [] = refl
same_items (x ∷ xs) = ap (λ z. x ∷ z) (same_items xs)

-- what stands for one item more
pub one_more : (f : ℕ → List ℕ) (xs : List ℕ) (x : ℕ) → flat_map f (xs ++ x ∷ []) ≡ flat_map f xs ++ f x
one_more f [] x = append-nil (f x)
one_more f (y ∷ xs) x = ap (λ z. f y ++ z) (one_more f xs x) ∙ sym (append_assoc (f y) (flat_map f xs) (f x))

-- the bytes of a text are those of its characters
pub encoded : (bytes : List ℕ) → IsUtf8 bytes → encode_utf8_all (chars bytes) ≡ bytes
encoded bytes u = ap encode_utf8_all (ap chars (sym u.1.1) ∙ chars-encodes u.0 u.1.0) ∙ u.1.1
