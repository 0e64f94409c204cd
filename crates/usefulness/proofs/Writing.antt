-- Words that are written one after the other.
use Rattle.std.proofs.Common.{◌≡◌, ◌<◌, ◌≤◌, ℕ, ◌+◌, List, [], ◌∷◌, ◌++◌, map, take, length, get_or, sym, ap, subst, ◌∙◌, append_assoc}
use Rattle.std.proofs.lemmas.List.{map-append, take_all}
use Rattle.std.proofs.lemmas.List.Elements.{All-nil, All-cons, All-append}
use Rattle.std.specs.List.{All, Contains}
use Rattle.match_model.specs.ArenaPatterns.{uid_of}
use Rattle.pattern_arena.specs.declared.pattern.DePat.{DePat, out-DePat}
use Rattle.pattern_arena.specs.Trees.{tree}
use Rattle.pattern_arena.proofs.TreeFacts.{tree_out}
use Rattle.usefulness.proofs.Choosing.{same_got}
use Rattle.usefulness.proofs.Noting.{take_one}

-- one word, and then others
pub then_words : (start mid now more : List ℕ) (a : ℕ) → mid ≡ start ++ a ∷ [] → now ≡ mid ++ more → now ≡ start ++ a ∷ more
then_words start mid now more a e f = f ∙ ap (λ zs. zs ++ more) e ∙ append_assoc start (a ∷ []) more

-- a number and some words, two words, and then others
pub row_written : (start one two now : List ℕ) (l : ℕ) (hs : List ℕ) (g w : ℕ) (ws : List ℕ) → one ≡ start ++ l ∷ hs → two ≡ one ++ g ∷ w ∷ [] → now ≡ two ++ ws → now ≡ start ++ l ∷ (hs ++ g ∷ w ∷ ws)
row_written start one two now l hs g w ws e f h =
    h ∙ ap (λ zs. zs ++ ws) f ∙ append_assoc one (g ∷ w ∷ []) ws ∙ ap (λ zs. zs ++ g ∷ w ∷ ws) e ∙ append_assoc start (l ∷ hs) (g ∷ w ∷ ws)

-- the uid of a pattern as it is placed
pub uid_is : {T : Type 0} (p : DePat T) → (out-DePat T p).uid ≡ uid_of (tree p)
uid_is p = sym (ap uid_of (tree_out p))

-- one more of the words that are one each
pub singles_step : {A B : Type 0} (view : A → B) (f : B → ℕ) (xs : List A) (i : ℕ) (x : A) (start words now : List ℕ) → i < length xs → x ≡ get_or xs i x →
    words ≡ start ++ map f (map view (take i xs)) → now ≡ words ++ f (view x) ∷ [] → now ≡ start ++ map f (map view (take (i + 1) xs))
singles_step view f xs i x start words now l e w n =
    n ∙ ap (λ zs. zs ++ f (view x) ∷ []) w ∙ append_assoc start (map f (map view (take i xs))) (f (view x) ∷ [])
    ∙ ap (λ zs. start ++ zs) (sym (map-append f (map view (take i xs)) (view x ∷ [])) ∙ ap (map f) (sym (map-append view (take i xs) (x ∷ []))) ∙ ap (λ zs. map f (map view zs)) (sym (take_one xs i x l e)))

-- when all have been gone through
pub singles_all : {A B : Type 0} (view : A → B) (f : B → ℕ) (xs : List A) (i : ℕ) (start words : List ℕ) → length xs ≤ i → words ≡ start ++ map f (map view (take i xs)) → words ≡ start ++ map f (map view xs)
singles_all view f xs i start words l w = w ∙ ap (λ zs. start ++ map f (map view zs)) (take_all i xs l)

-- words and then others, where there were none
pub all_written : (none one now xs ys : List ℕ) → none ≡ [] → one ≡ none ++ xs → now ≡ one ++ ys → now ≡ xs ++ ys
all_written none one now xs ys e f g = g ∙ ap (λ zs. zs ++ ys) (f ∙ ap (λ zs. zs ++ xs) e)

-- what stands at a number is there
pub item_in : {A : Type 0} (xs : List A) (i : ℕ) (d : A) → i < length xs → Contains xs (get_or xs i d)
item_in xs i d l = (i, l, sym (same_got xs i d (get_or xs i d) l))

-- one more of which something holds
pub all_next : {A : Type 0} (P : A → Type 0) (xs : List A) (i : ℕ) (d : A) → i < length xs → All P (take i xs) → P (get_or xs i d) → All P (take (i + 1) xs)
all_next P xs i d l a p =
    subst (All P) (sym (take_one xs i (get_or xs i d) l (same_got xs i d (get_or xs i d) l))) (All-append P (take i xs) (get_or xs i d ∷ []) a (All-cons P (get_or xs i d) [] p (All-nil P)))

-- when all have been gone through
pub all_gone : {A : Type 0} (P : A → Type 0) (xs : List A) (i : ℕ) → length xs ≤ i → All P (take i xs) → All P xs
all_gone P xs i l a = subst (All P) (take_all i xs l) a
