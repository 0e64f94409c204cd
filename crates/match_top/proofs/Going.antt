-- A text that is written piece by piece.
use Rattle.std.proofs.Common.{◌≡◌, ◌∙◌, sym, ap, subst, refl, ℕ, List, [], ◌++◌, ◌-◌, take, drop, length, Option, Some, None, append_assoc, append-nil, take-append-drop}
use Rattle.std.proofs.Math.Seq.{take-append_seam}
use Rattle.std.proofs.lemmas.List.{take_rest, nil_from_length}
use Rattle.std.specs.Io.KnownBytes.{Appends}
use Rattle.match_top.specs.Writing.{AppendsPart}

-- the front of the text was appended, and the rest is to come
pub record Going (old new : Option (List ℕ)) (text rest : List ℕ) : Type 0 where
  pub front : List ℕ
  pub whole : text ≡ front ++ rest
  pub appended : Appends old new front

appends_more : (old mid new : Option (List ℕ)) (xs ys : List ℕ) → Appends old mid xs → Appends mid new ys → Appends old new (xs ++ ys)
appends_more None mid new xs ys a b = tt
appends_more (Some o) None new xs ys a b = absurd a
appends_more (Some o) (Some m) None xs ys a b = absurd b
appends_more (Some o) (Some m) (Some n) xs ys a b = b ∙ ap (λ z. z ++ ys) a ∙ append_assoc o xs ys

appends_none : (old : Option (List ℕ)) → Appends old old []
appends_none None = tt
appends_none (Some o) = sym (append-nil o)

pub going_first : (old : Option (List ℕ)) (text : List ℕ) → Going old old text text
going_first old text = record { front = []; whole = refl; appended = appends_none old }

pub going_on : (old mid new : Option (List ℕ)) (text rest : List ℕ) (n : ℕ) → Going old mid text rest → Appends mid new (take n rest) → Going old new text (drop n rest)
going_on old mid new text rest n g a = record {
  front = g.front ++ take n rest;
  whole = g.whole ∙ ap (λ z. g.front ++ z) (sym (take-append-drop n rest)) ∙ sym (append_assoc g.front (take n rest) (drop n rest));
  appended = appends_more old mid new g.front (take n rest) g.appended a;
}

pub going_part : (old new : Option (List ℕ)) (text rest : List ℕ) → Going old new text rest → AppendsPart old new text
going_part old new text rest g =
    let e : take (length g.front) text ≡ g.front = ap (λ z. take (length g.front) z) g.whole ∙ take-append_seam g.front rest in
    (length g.front, subst (λ (z : List ℕ). Appends old new z) (sym e) g.appended)

pub going_done : (old new : Option (List ℕ)) (text rest : List ℕ) → length rest ≡ 0 → Going old new text rest → Appends old new text
going_done old new text rest none g =
    let e : g.front ≡ text = sym (g.whole ∙ ap (λ z. g.front ++ z) (nil_from_length rest none) ∙ append-nil g.front) in subst (λ (z : List ℕ). Appends old new z) e g.appended

-- the rest of a slice from n on, as the code takes it
pub going_on_slice : (old mid new : Option (List ℕ)) (text rest : List ℕ) (n : ℕ) → Going old mid text rest → Appends mid new (take n rest) → Going old new text (take (length rest - n) (drop n rest))
going_on_slice old mid new text rest n g a =
    subst (λ (z : List ℕ). Going old new text z) (sym (take_rest rest n)) (going_on old mid new text rest n g a)

-- a call that failed wrote nothing
pub going_kept : (old mid new : Option (List ℕ)) (text rest : List ℕ) → new ≡ mid → Going old mid text rest → Going old new text rest
going_kept old mid new text rest same g = subst (λ (z : Option (List ℕ)). Going old z text rest) (sym same) g
