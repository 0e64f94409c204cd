-- What a reading gives is spelled so, and what is spelled so is read: steps and lists.
use Rattle.std.proofs.Common.{rules, ◌≡◌, ℕ, zero, suc, ◌<◌, ◌≤◌, Bool, true, false, cond, List, [], ◌∷◌, length, Option, Some, None, refl, sym, ap, subst, ◌∙◌, arith, ◌⊎◌, inl, inr}
use Rattle.std.specs.Prelude.{option_map, Result, Ok, Err, IfOk, IfErr}
use Rattle.decl_syntax.specs.declared.stop.Stop.{Stop}
use Rattle.decl_syntax.specs.declared.stop.Stop.TheVariants as stops
use denote.Enum.Bare.{same_true, true_same}
use Rattle.decl_lexer.specs.declared.marks.Mark.{Mark}
use Rattle.decl_lexer.specs.declared.marks.Mark.TheVariants as marks
use Rattle.decl_lexer.specs.declared.words.Word.{Word}
use Rattle.decl_lexer.specs.contracts.marks.Mark as mark_contract
use Rattle.decl_lexer.specs.contracts.words.Word as word_contract
use Rattle.decl_lexer.specs.Begins.{Lexeme, Keyword, Marked}
use Rattle.decl_lexer.specs.Lexing.{Placed}
use Rattle.decl_syntax.specs.Units.{behind, is_mark, is_word, flag_at, flag_from, token_at}
use Rattle.decl_syntax.specs.Grammar.{Spelling, NoneSpelled, IsMark, NextIsNot, CommaList, closed, last, next, Separated, only, further, Maybe, missing, there, Many, no_more, one_more}
use Rattle.decl_syntax.specs.Reading.{◌>>=◌, either, Read, Gives, comma_list, list_at, part_list, parts_at, many_list, many_at}
use Rattle.decl_syntax.proofs.ListLemmas.{Shrinks, list_unfolds, parts_unfold, many_unfolds}

abbrev pub done : {A : Type 0} → A → Option A
done x = Some x

pub some_is : {A : Type 0} (x y : A) → done x ≡ done y → x ≡ y
some_is x y e = cc

-- the value of a step that gave one
pub bind_some : {A B : Type 0} (r : Option A) (f : A → Option B) (y : B) → (r >>= f) ≡ Some y → (x : A) × (r ≡ Some x) × (f x ≡ Some y)
bind_some (Some x) f y e = (x, refl, e)
bind_some None f y e = absurd cc

pub either_some : {A B : Type 0} (o : Option A) (f : A → Option B) (other : Option B) (y : B) → either o f other ≡ Some y
    → ((x : A) × (o ≡ Some x) × (f x ≡ Some y)) ⊎ ((o ≡ None) × (other ≡ Some y))
either_some (Some x) f other y e = inl (x, refl, e)
either_some None f other y e = inr (refl, e)

pub map_some : {A B : Type 0} (f : A → B) (r : Option A) (y : B) → option_map f r ≡ Some y → (x : A) × (r ≡ Some x) × (f x ≡ y)
map_some f (Some x) y e = (x, refl, some_is _ _ e)
map_some f None y e = absurd cc

-- what was read is the pair
pub given : {A : Type 0} (P : Spelling A) (ts : List Placed) (z y : A × List Placed) → done z ≡ done y → P ts z.0 z.1 → P ts y.0 y.1
given P ts z y e p = subst (λ w. P ts w.0 w.1) (some_is z y e) p

-- ---- first tokens

-- the first token is this mark, and these stand behind it
pub record Heads (mark : Mark) (ts rest : List Placed) : Type 0 where
  pub first : Placed
  pub is : IsMark mark first
  pub whole : ts ≡ first ∷ rest

pub mark_only : (m : Mark) (l : Lexeme) → is_mark m l ≡ true → l ≡ Marked m
mark_only m (Marked n) e = ap Marked (same_true mark_contract.the_type (search rules) n m e)
mark_only m _ e = absurd cc

pub mark_it : (m : Mark) → is_mark m (Marked m) ≡ true
mark_it m = true_same mark_contract.the_type m m refl

pub word_only : (m : Word) (l : Lexeme) → is_word m l ≡ true → l ≡ Keyword m
word_only m (Keyword n) e = ap Keyword (same_true word_contract.the_type (search rules) n m e)
word_only m _ e = absurd cc

pub record First (passes : Lexeme → Bool) (ts rest : List Placed) : Type 0 where
  pub first : Placed
  pub is : passes first.lexeme ≡ true
  pub whole : ts ≡ first ∷ rest

pub behind_first : (p : Lexeme → Bool) (ts rest : List Placed) → behind p ts ≡ Some rest → First p ts rest
behind_first p [] rest e = absurd cc
behind_first p (t ∷ ts) rest e = by_case (p t.lexeme) refl e
  where
    by_case : (b : Bool) → p t.lexeme ≡ b → cond b (Some ts) None ≡ Some rest → First p (t ∷ ts) rest
    by_case true q e = record { first = t; is = q; whole = ap (λ us. t ∷ us) (some_is ts rest e) }
    by_case false q e = absurd cc

pub behind_some : (m : Mark) (ts rest : List Placed) → behind (is_mark m) ts ≡ Some rest → Heads m ts rest
behind_some m ts rest e = let f = behind_first (is_mark m) ts rest e in record { first = f.first; is = mark_only m f.first.lexeme f.is; whole = f.whole }

pub behind_it : (m : Mark) (t : Placed) (rest : List Placed) → IsMark m t → behind (is_mark m) (t ∷ rest) ≡ Some rest
behind_it m t rest e = rw (e, mark_it m) refl

pub behind_other : (m n : Mark) (t : Placed) (rest : List Placed) → IsMark n t → is_mark m (Marked n) ≡ false → behind (is_mark m) (t ∷ rest) ≡ None
behind_other m n t rest e differs = rw (e, differs) refl

pub none_behind : (p : Lexeme → Bool) (ts : List Placed) → NextIsNot p ts → behind p ts ≡ None
none_behind p [] e = refl
none_behind p (t ∷ ts) e = rw e refl

pub next_is_not : (p : Lexeme → Bool) (ts : List Placed) → behind p ts ≡ None → NextIsNot p ts
next_is_not p [] e = refl
next_is_not p (t ∷ ts) e = by_case (p t.lexeme) e
  where
    by_case : (b : Bool) → cond b (Some ts) None ≡ None → b ≡ false
    by_case true e = absurd cc
    by_case false e = refl

-- the first token stands for this
pub record Means {A : Type 0} (meaning : Lexeme → Option A) (ts : List Placed) (x : A) (rest : List Placed) : Type 0 where
  pub first : Placed
  pub is : meaning first.lexeme ≡ Some x
  pub whole : ts ≡ first ∷ rest

pub token_some : {A : Type 0} (meaning : Lexeme → Option A) (ts : List Placed) (y : A × List Placed) → token_at meaning ts ≡ Some y → Means meaning ts y.0 y.1
token_some meaning [] y e = absurd cc
token_some meaning (t ∷ ts) y e =
    let m = map_some (λ x. (x, ts)) (meaning t.lexeme) y e in
    subst (λ w. Means meaning (t ∷ ts) w.0 w.1) m.2 (record { first = t; is = m.1; whole = refl })

pub flag_sound : (p : Lexeme → Bool) (ts : List Placed) → Maybe p ts (flag_at p ts).0 (flag_at p ts).1
flag_sound p ts = by_case (behind p ts) refl
  where
    by_case : (o : Option (List Placed)) → behind p ts ≡ o → Maybe p ts (flag_from o ts).0 (flag_from o ts).1
    by_case None e = missing ts (next_is_not p ts e)
    by_case (Some rest) e = let f = behind_first p ts rest e in rw f.whole (there f.first rest f.is)

pub flag_complete : (p : Lexeme → Bool) (ts us : List Placed) (b : Bool) → Maybe p ts b us → flag_at p ts ≡ (b, us)
flag_complete p _ _ _ (missing ts e) = rw (none_behind p ts e) refl
flag_complete p _ _ _ (there t ts e) = rw e refl

pub maybe_shrinks : (p : Lexeme → Bool) (ts us : List Placed) (b : Bool) → Maybe p ts b us → length us ≤ length ts
maybe_shrinks p _ _ _ (missing ts e) = omega arith
maybe_shrinks p _ _ _ (there t ts e) = omega arith

-- ---- what joins a relation and a reading

pub record Joined {A : Type 0} (P : Spelling A) (read : List Placed → Read A) : Type 0 where
  pub sound : (ts : List Placed) (y : A × List Placed) → read ts ≡ Some y → P ts y.0 y.1
  pub complete : (ts rest : List Placed) (x : A) → P ts x rest → read ts ≡ Some (x, rest)
  pub shrinks : (ts rest : List Placed) (x : A) → P ts x rest → length rest < length ts

pub read_shrinks : {A : Type 0} (P : Spelling A) (read : List Placed → Read A) → Joined P read → Shrinks read
read_shrinks P read h ts rest x e = h.shrinks ts rest x (h.sound ts (x, rest) e)

-- two readings of the same tokens are one
pub one_reading : {A : Type 0} (P : Spelling A) (read : List Placed → Read A) → Joined P read → (ts us vs : List Placed) (x y : A) → P ts x us → P ts y vs → (x ≡ y) × (us ≡ vs)
one_reading P read h ts us vs x y p q =
    let same = some_is _ _ (sym (h.complete ts us x p) ∙ h.complete ts vs y q) in (ap (λ w. w.0) same, ap (λ w. w.1) same)

-- what a function promises that gives what is read
pub gives_found : {A X : Type 0} (P : Spelling A) (read : List Placed → Read A) (h : Joined P read) (view : X → A × List Placed) (ts : List Placed) (r : Result X Stop)
    → Gives view r (read ts) → IfOk r (λ x. P ts (view x).0 (view x).1)
gives_found P read h view ts (Ok x) g = h.sound ts (view x) g
gives_found P read h view ts (Err e) g = tt

pub gives_none : {A X : Type 0} (P : Spelling A) (read : List Placed → Read A) (h : Joined P read) (view : X → A × List Placed) (ts : List Placed) (r : Result X Stop)
    → Gives view r (read ts) → IfErr r (NoneSpelled P ts)
gives_none P read h view ts (Ok x) g = tt
gives_none P read h view ts (Err stops.Memory) g = tt
gives_none P read h view ts (Err stops.Syntax) g = λ x rest p. let k = h.complete ts rest x p in absurd cc

-- ---- lists

-- no item begins with the mark that closes the list
abbrev pub Opens : {A : Type 0} → Mark → Spelling A → Type 0
Opens {A} close P = (ts rest : List Placed) (x : A) → P ts x rest → behind (is_mark close) ts ≡ None

module _ {A : Type 0} (close : Mark) (no_comma : is_mark close (Marked marks.Comma) ≡ false) (Item : Spelling A) (read : List Placed → Read A) (h : Joined Item read) (opens : Opens close Item) where
  fuel_sound : (fuel : ℕ) (ts : List Placed) (y : List A × List Placed) → comma_list close read fuel ts ≡ Some y → CommaList close Item ts y.0 y.1
  fuel_sound zero ts y e = absurd cc
  fuel_sound (suc fuel) ts y e =
      elim (either_some (behind (is_mark close) ts) _ _ y e) [
        | inl a ↦ (let b = behind_some close ts a.0 a.1 in given (CommaList close Item) ts _ y a.2 (rw b.whole (closed b.first a.0 b.is)))
        | inr o ↦ (
            let r = bind_some (read ts) _ y o.1 in
            let item = h.sound ts r.0 r.1 in
            elim (either_some (behind (is_mark close) r.0.1) _ _ y r.2) [
              | inl a ↦ (let b = behind_some close r.0.1 a.0 a.1 in given (CommaList close Item) ts _ y a.2 (last ts a.0 r.0.0 b.first (rw b.whole at item) b.is))
              | inr f ↦ (
                  let q = bind_some (behind (is_mark marks.Comma) r.0.1) _ y f.1 in
                  let b = behind_some marks.Comma r.0.1 q.0 q.1 in
                  let s = bind_some (comma_list close read fuel q.0) _ y q.2 in
                  given (CommaList close Item) ts _ y s.2 (next ts q.0 s.0.1 r.0.0 s.0.0 b.first (rw b.whole at item) b.is (fuel_sound fuel q.0 s.0 s.1)))
            ])
      ]

  list_complete : (ts rest : List Placed) (xs : List A) → CommaList close Item ts xs rest → list_at close read ts ≡ Some (xs, rest)
  list_complete _ _ _ (closed t rest e) = list_unfolds close read (read_shrinks Item read h) (t ∷ rest) ∙ rw (behind_it close t rest e) refl
  list_complete _ _ _ (last ts rest x t item e) =
      list_unfolds close read (read_shrinks Item read h) ts ∙ rw (opens ts (t ∷ rest) x item, h.complete ts (t ∷ rest) x item, behind_it close t rest e) refl
  list_complete _ _ _ (next ts us rest x xs t item e others) =
      list_unfolds close read (read_shrinks Item read h) ts
      ∙ rw (opens ts (t ∷ us) x item, h.complete ts (t ∷ us) x item, behind_other close marks.Comma t us e no_comma, behind_it marks.Comma t us e, list_complete us rest xs others) refl

  list_shrinks : (ts rest : List Placed) (xs : List A) → CommaList close Item ts xs rest → length rest < length ts
  list_shrinks _ _ _ (closed t rest e) = omega arith
  list_shrinks _ _ _ (last ts rest x t item e) = omega (arith, h.shrinks ts (t ∷ rest) x item)
  list_shrinks _ _ _ (next ts us rest x xs t item e others) = omega (arith, h.shrinks ts (t ∷ us) x item, list_shrinks us rest xs others)

  pub lists : Joined (CommaList close Item) (list_at close read)
  unfolding list_at
  lists = record { sound = λ ts y e. fuel_sound (suc (length ts)) ts y e; complete = list_complete; shrinks = list_shrinks }

module _ {A : Type 0} (mark : Mark) (Item : Spelling A) (read : List Placed → Read A) (h : Joined Item read) where
  parts_sound : (fuel : ℕ) (ts : List Placed) (y : List A × List Placed) → part_list mark read fuel ts ≡ Some y → Separated mark Item ts y.0 y.1
  parts_sound zero ts y e = absurd cc
  parts_sound (suc fuel) ts y e =
      let r = bind_some (read ts) _ y e in
      let item = h.sound ts r.0 r.1 in
      elim (either_some (behind (is_mark mark) r.0.1) _ _ y r.2) [
        | inl a ↦ (
            let b = behind_some mark r.0.1 a.0 a.1 in
            let s = bind_some (part_list mark read fuel a.0) _ y a.2 in
            given (Separated mark Item) ts _ y s.2 (further ts a.0 s.0.1 r.0.0 s.0.0 b.first (rw b.whole at item) b.is (parts_sound fuel a.0 s.0 s.1)))
        | inr o ↦ given (Separated mark Item) ts _ y o.1 (only ts r.0.1 r.0.0 item (next_is_not (is_mark mark) r.0.1 o.0))
      ]

  parts_complete : (ts rest : List Placed) (xs : List A) → Separated mark Item ts xs rest → parts_at mark read ts ≡ Some (xs, rest)
  parts_complete _ _ _ (only ts rest x item e) = parts_unfold mark read (read_shrinks Item read h) ts ∙ rw (h.complete ts rest x item, none_behind (is_mark mark) rest e) refl
  parts_complete _ _ _ (further ts us rest x xs t item e others) =
      parts_unfold mark read (read_shrinks Item read h) ts ∙ rw (h.complete ts (t ∷ us) x item, behind_it mark t us e, parts_complete us rest xs others) refl

  parts_shrink : (ts rest : List Placed) (xs : List A) → Separated mark Item ts xs rest → length rest < length ts
  parts_shrink _ _ _ (only ts rest x item e) = h.shrinks ts rest x item
  parts_shrink _ _ _ (further ts us rest x xs t item e others) = omega (arith, h.shrinks ts (t ∷ us) x item, parts_shrink us rest xs others)

  pub parts : Joined (Separated mark Item) (parts_at mark read)
  unfolding parts_at
  parts = record { sound = λ ts y e. parts_sound (suc (length ts)) ts y e; complete = parts_complete; shrinks = parts_shrink }

module _ {A : Type 0} (mark : Mark) (Item : Spelling A) (read : List Placed → Read A) (h : Joined Item read) where
  more_by : (t : Placed) (ts vs us rest : List Placed) (x : A) (xs : List A) → ts ≡ t ∷ vs → IsMark mark t → Item ts x us → Many mark Item us xs rest → Many mark Item ts (x ∷ xs) rest
  more_by t ts vs us rest x xs w e item others = rw w (one_more t vs us rest x xs e (rw w at item) others)

  many_fuel : (fuel : ℕ) (ts : List Placed) (y : List A × List Placed) → many_list mark read fuel ts ≡ Some y → Many mark Item ts y.0 y.1
  many_fuel zero ts y e = absurd cc
  many_fuel (suc fuel) ts y e =
      elim (either_some (behind (is_mark mark) ts) _ _ y e) [
        | inl a ↦ (
            let b = behind_some mark ts a.0 a.1 in
            let r = bind_some (read ts) _ y a.2 in
            let item = h.sound ts r.0 r.1 in
            let s = bind_some (many_list mark read fuel r.0.1) _ y r.2 in
            given (Many mark Item) ts _ y s.2 (more_by b.first ts a.0 r.0.1 s.0.1 r.0.0 s.0.0 b.whole b.is item (many_fuel fuel r.0.1 s.0 s.1)))
        | inr o ↦ given (Many mark Item) ts _ y o.1 (no_more ts (next_is_not (is_mark mark) ts o.0))
      ]

  pub many_sound : (ts : List Placed) (y : List A × List Placed) → many_at mark read ts ≡ Some y → Many mark Item ts y.0 y.1
  unfolding many_at
  many_sound ts y e = many_fuel (suc (length ts)) ts y e

  pub many_complete : (ts rest : List Placed) (xs : List A) → Many mark Item ts xs rest → many_at mark read ts ≡ Some (xs, rest)
  many_complete _ _ _ (no_more ts e) = many_unfolds mark read (read_shrinks Item read h) ts ∙ rw (none_behind (is_mark mark) ts e) refl
  many_complete _ _ _ (one_more t ts us rest x xs e item others) =
      many_unfolds mark read (read_shrinks Item read h) (t ∷ ts) ∙ rw (behind_it mark t ts e, h.complete (t ∷ ts) us x item, many_complete us rest xs others) refl

  pub many_shrinks : (ts rest : List Placed) (xs : List A) → Many mark Item ts xs rest → length rest ≤ length ts
  many_shrinks _ _ _ (no_more ts e) = omega arith
  many_shrinks _ _ _ (one_more t ts us rest x xs e item others) = omega (arith, h.shrinks (t ∷ ts) us x item, many_shrinks us rest xs others)
