-- Tokens that stand in order: what is spelled by some of them lies between their bytes.
use Rattle.std.proofs.Common.{◌≡◌, ℕ, suc, ◌<◌, ◌≤◌, Bool, true, false, ◌&&◌, ◌||◌, List, [], ◌∷◌, ◌++◌, Option, Some, None, nat_lt, refl, sym, ap, ◌∙◌, arith}
use Rattle.std.specs.List.{list_all}
use Rattle.std.proofs.lemmas.Bool.Decides.{nat_tests}
use Rattle.match_model.specs.SourcePatterns.{ascend}
use Rattle.decl_lexer.specs.declared.marks.Mark.{Mark}
use Rattle.decl_lexer.specs.declared.marks.Mark.TheVariants as marks
use Rattle.decl_lexer.specs.Begins.{Lexeme, Marked}
use Rattle.decl_lexer.specs.Lexing.{Placed, AreInOrder}
use Rattle.decl_syntax.specs.Units.{units, halves, doubled_mark}
use Rattle.decl_syntax.specs.Grammar.{Spelling, CommaList, closed, last, next, Separated, only, further, Maybe, missing, there, Many, no_more, one_more}
use Rattle.pattern_rules.proofs.SameTypes.{both_left, both_right}
use Rattle.pattern_laws.specs.ParsedLaws.{lexeme_is_spelled}

-- the token may be half of another
abbrev pub is_half : Lexeme → Bool
is_half (Marked marks.Ampersand) = true
is_half (Marked marks.Greater) = true
is_half _ = false

-- the tokens stand in order between these bytes, none but halves being empty, and their literals are spelled
abbrev pub Stand : ℕ → ℕ → List Placed → Type 0
Stand lo hi [] = lo ≤ hi
Stand lo hi (t ∷ ts) =
    (lo ≤ t.from) × (t.from ≤ t.to) × (is_half t.lexeme ≡ false → t.from < t.to) × (lexeme_is_spelled t.lexeme ≡ true)
    × Stand t.to hi ts

pub stand_from : (lo low hi : ℕ) (ts : List Placed) → low ≤ lo → Stand lo hi ts → Stand low hi ts
stand_from lo low hi [] le h = omega (arith, le, h)
stand_from lo low hi (t ∷ ts) le h = (omega (arith, le, h.0), h.1, h.2, h.3, h.4)

-- tokens of a text, with those that are two as their halves
split_stands : (t : Placed) (lo hi : ℕ) (ts : List Placed) (o : Option Mark) → doubled_mark t.lexeme ≡ o → lo ≤ t.from →
    t.from < t.to →
    lexeme_is_spelled t.lexeme ≡ true → Stand t.to hi ts → Stand lo hi (halves t o ++ ts)
split_stands t lo hi ts None e le lt s h = (le, omega (arith, lt), λ n. lt, s, h)
split_stands t lo hi ts (Some mark) e le lt s h =
    let half : is_half (Marked mark) ≡ true = half_is t.lexeme mark e in (
      le,
      omega (arith, lt),
      λ n. absurd (apart (sym half ∙ n)),
      refl,
      (omega arith, omega arith, λ n. omega (arith, lt), refl, h),
    )
  where
    apart : true ≡ false → ⊥
    apart e = cc

    half_is : (l : Lexeme) (m : Mark) → doubled_mark l ≡ Some m → is_half (Marked m) ≡ true
    half_is (Marked marks.And) m e = let same : marks.Ampersand ≡ m = cc in ap (λ (x : Mark). is_half (Marked x))
        (sym same)
    half_is (Marked marks.ShiftRight) m e = let same : marks.Greater ≡ m = cc in ap (λ (x : Mark). is_half (Marked x))
        (sym same)
    half_is _ m e = cc

pub units_stand : (lo hi : ℕ) (ts : List Placed) → AreInOrder lo hi ts → list_all (λ t. lexeme_is_spelled t.lexeme) ts
    ≡ true → Stand lo hi (units ts)
unfolding units
units_stand lo hi [] h s = h
units_stand lo hi (t ∷ ts) h s =
    split_stands t lo hi (units ts) (doubled_mark t.lexeme) refl h.0 h.1
    (both_left (lexeme_is_spelled t.lexeme) (list_all (λ u. lexeme_is_spelled u.lexeme) ts) s)
    (units_stand t.to hi ts h.2 (both_right (lexeme_is_spelled t.lexeme) (list_all (λ u. lexeme_is_spelled u.lexeme) ts)
    s))

-- ---- offsets between two bytes

-- the numbers ascend from the first and are below the second
abbrev pub Between : ℕ → ℕ → List ℕ → Type 0
Between lo mid [] = lo ≤ mid
Between lo mid (o ∷ os) = (lo ≤ o) × Between (suc o) mid os

pub between_least : (lo mid : ℕ) (os : List ℕ) → Between lo mid os → lo ≤ mid
between_least lo mid [] h = h
between_least lo mid (o ∷ os) h = omega (arith, h.0, between_least (suc o) mid os h.1)

pub between_from : (lo low mid : ℕ) (os : List ℕ) → low ≤ lo → Between lo mid os → Between low mid os
between_from lo low mid [] le h = omega (arith, le, h)
between_from lo low mid (o ∷ os) le h = (omega (arith, le, h.0), h.1)

pub between_to : (lo mid more : ℕ) (os : List ℕ) → mid ≤ more → Between lo mid os → Between lo more os
between_to lo mid more [] le h = omega (arith, le, h)
between_to lo mid more (o ∷ os) le h = (h.0, between_to (suc o) mid more os le h.1)

pub between_both : (lo mid hi : ℕ) (os ps : List ℕ) → Between lo mid os → Between mid hi ps → Between lo hi (os ++ ps)
between_both lo mid hi [] ps h k = between_from mid lo hi ps h k
between_both lo mid hi (o ∷ os) ps h k = (h.0, between_both (suc o) mid hi os ps h.1 k)

pub between_ascends : (lo mid : ℕ) (os : List ℕ) → Between lo mid os → ascend os ≡ true
between_ascends lo mid [] h = refl
between_ascends lo mid (o ∷ []) h = refl
between_ascends lo mid (o ∷ p ∷ os) h =
    let less : nat_lt o p ≡ true = grind (arith, nat_tests, h.1.0) in
    ap (λ b. b && ascend (p ∷ os)) less ∙ between_ascends (suc o) mid (p ∷ os) h.1

-- ---- from tokens to those behind them

-- tokens that stand in order leave such tokens
abbrev pub Moves : List Placed → List Placed → Type 0
Moves ts rest = (lo hi : ℕ) → Stand lo hi ts → (mid : ℕ) × (lo ≤ mid) × Stand mid hi rest

-- they leave such tokens, the offsets lie between, and where nothing is too wide something is spelled
pub record Read (lo hi : ℕ) (rest : List Placed) (os : List ℕ) (wide spelled : Bool) : Type 0 where
  pub mid : ℕ
  pub between : Between lo mid os
  pub stands : Stand mid hi rest
  pub told : wide ≡ false → spelled ≡ true

abbrev pub Reads : List Placed → List Placed → List ℕ → Bool → Bool → Type 0
Reads ts rest os wide spelled = (lo hi : ℕ) → Stand lo hi ts → Read lo hi rest os wide spelled

pub stay : (ts : List Placed) → Moves ts ts
stay ts lo hi h = (lo, omega arith, h)

pub one_token : (t : Placed) (ts : List Placed) → Moves (t ∷ ts) ts
one_token t ts lo hi h = (t.to, omega (arith, h.0, h.1), h.4)

pub both_move : (ts us rest : List Placed) → Moves ts us → Moves us rest → Moves ts rest
both_move ts us rest f g lo hi h =
    let a = f lo hi h in let b = g a.0 hi a.2 in (b.0, omega (arith, a.1, b.1), b.2)

pub run_moves : (run rest : List Placed) → Moves (run ++ rest) rest
run_moves [] rest = stay rest
run_moves (t ∷ run) rest = both_move (t ∷ (run ++ rest)) (run ++ rest) rest (one_token t (run ++ rest))
    (run_moves run rest)

pub maybe_moves : (passes : Lexeme → Bool) (ts rest : List Placed) (b : Bool) → Maybe passes ts b rest → Moves ts rest
maybe_moves passes ts rest b (missing us n) = stay us
maybe_moves passes ts rest b (there t us p) = one_token t us

module _ {A : Type 0} (mark : Mark) (Item : Spelling A) (moves : (ts rest : List Placed) (x : A) → Item ts x rest →
    Moves ts rest) where
  pub comma_moves : (ts rest : List Placed) (xs : List A) → CommaList mark Item ts xs rest → Moves ts rest
  comma_moves ts rest xs (closed t us e) = one_token t us
  comma_moves ts rest xs (last us vs x t i e) = both_move us (t ∷ vs) vs (moves us (t ∷ vs) x i) (one_token t vs)
  comma_moves ts rest xs (next us vs ws x ys t i e more) =
      both_move us (t ∷ vs) ws (moves us (t ∷ vs) x i)
      (both_move (t ∷ vs) vs ws (one_token t vs) (comma_moves vs ws ys more))

  pub separated_moves : (ts rest : List Placed) (xs : List A) → Separated mark Item ts xs rest → Moves ts rest
  separated_moves ts rest xs (only us vs x i n) = moves us vs x i
  separated_moves ts rest xs (further us vs ws x ys t i e more) =
      both_move us (t ∷ vs) ws (moves us (t ∷ vs) x i)
      (both_move (t ∷ vs) vs ws (one_token t vs) (separated_moves vs ws ys more))

  pub many_moves : (ts rest : List Placed) (xs : List A) → Many mark Item ts xs rest → Moves ts rest
  many_moves ts rest xs (no_more us n) = stay us
  many_moves ts rest xs (one_more t us vs ws x ys e i more) = both_move (t ∷ us) vs ws (moves (t ∷ us) vs x i)
      (many_moves vs ws ys more)

-- ---- what is read, step by step

pub moved : (ts rest : List Placed) → Moves ts rest → Reads ts rest [] false true
moved ts rest f lo hi h = let a = f lo hi h in record { mid = a.0; between = a.1; stands = a.2; told = λ e. refl }

pub read_moves : (ts rest : List Placed) (os : List ℕ) (w s : Bool) → Reads ts rest os w s → Moves ts rest
read_moves ts rest os w s r lo hi h = let a = r lo hi h in (a.mid, between_least lo a.mid os a.between, a.stands)

or_left : (a b : Bool) → (a || b) ≡ false → a ≡ false
or_left true b e = e
or_left false b e = refl

or_right : (a b : Bool) → (a || b) ≡ false → b ≡ false
or_right true b e = cc
or_right false b e = e

both_hold : (a b : Bool) → a ≡ true → b ≡ true → (a && b) ≡ true
both_hold true b e f = f
both_hold false b e f = cc

pub both_read : (ts us rest : List Placed) (os ps : List ℕ) (w x s z : Bool) → Reads ts us os w s →
    Reads us rest ps x z →
    Reads ts rest (os ++ ps) (w || x) (s && z)
both_read ts us rest os ps w x s z f g lo hi h =
    let a = f lo hi h in let b = g a.mid hi a.stands in
    record {
      mid = b.mid;
      between = between_both lo a.mid b.mid os ps a.between b.between;
      stands = b.stands;
      told = λ e. both_hold s z (a.told (or_left w x e)) (b.told (or_right w x e));
    }

-- past tokens in front
pub move_then : (ts us rest : List Placed) (os : List ℕ) (w s : Bool) → Moves ts us → Reads us rest os w s →
    Reads ts rest os w s
move_then ts us rest os w s f g lo hi h =
    let a = f lo hi h in let b = g a.0 hi a.2 in
    record { mid = b.mid; between = between_from a.0 lo b.mid os a.1 b.between; stands = b.stands; told = b.told }

-- and past tokens behind
pub then_move : (ts us rest : List Placed) (os : List ℕ) (w s : Bool) → Reads ts us os w s → Moves us rest →
    Reads ts rest os w s
then_move ts us rest os w s f g lo hi h =
    let a = f lo hi h in let b = g a.mid hi a.stands in
    record { mid = b.0; between = between_to lo a.mid b.0 os b.1 a.between; stands = b.2; told = a.told }

-- the place of a token that is not empty, and what is behind it
pub at_token : (t : Placed) (us rest : List Placed) (os : List ℕ) (w s : Bool) → is_half t.lexeme ≡ false →
    Reads us rest os w s →
    Reads (t ∷ us) rest (t.from ∷ os) w s
at_token t us rest os w s e f lo hi h =
    let a = f t.to hi h.4 in
    let less : t.from < t.to = h.2 e in
    record {
      mid = a.mid;
      between = (h.0, between_from t.to (suc t.from) a.mid os (omega (arith, less)) a.between);
      stands = a.stands;
      told = a.told;
    }

-- the place of any token, in front of what has a place behind it
pub before_place : (t : Placed) (us rest : List Placed) (o : ℕ) (os : List ℕ) (w s : Bool) →
    Reads us rest (o ∷ os) w s →
    Reads (t ∷ us) rest (t.from ∷ os) w s
before_place t us rest o os w s f lo hi h =
    let a = f t.to hi h.4 in
    let le : t.from ≤ o = omega (arith, h.1, a.between.0) in
    record {
      mid = a.mid;
      between = (h.0, between_from (suc o) (suc t.from) a.mid os (omega (arith, le)) a.between.1);
      stands = a.stands;
      told = a.told;
    }

-- without the first place
pub past_place : (ts rest : List Placed) (o : ℕ) (os : List ℕ) (w s : Bool) → Reads ts rest (o ∷ os) w s →
    Reads ts rest os w s
past_place ts rest o os w s f lo hi h =
    let a = f lo hi h in
    record {
      mid = a.mid;
      between = between_from (suc o) lo a.mid os (omega (arith, a.between.0)) a.between.1;
      stands = a.stands;
      told = a.told;
    }

-- where more is asked, and where more is told
pub wider : (ts rest : List Placed) (os : List ℕ) (b w s : Bool) → Reads ts rest os w s → Reads ts rest os (b || w) s
wider ts rest os b w s f lo hi h =
    let a =
    f lo hi h in record { mid = a.mid; between = a.between; stands = a.stands; told = λ e. a.told (or_right b w e) }

pub with_test : (ts rest : List Placed) (os : List ℕ) (b w s : Bool) → b ≡ true → Reads ts rest os w s →
    Reads ts rest os w (b && s)
with_test ts rest os b w s t f lo hi h =
    let a =
    f lo hi h in record { mid = a.mid; between = a.between; stands = a.stands; told = λ e. both_hold b s t (a.told e) }

pub by_test : (ts rest : List Placed) (os : List ℕ) (b c w s : Bool) → (b ≡ false → c ≡ true) → Reads ts rest os w s →
    Reads ts rest os (b || w) (c && s)
by_test ts rest os b c w s t f lo hi h =
    let a = f lo hi h in
    record {
      mid = a.mid;
      between = a.between;
      stands = a.stands;
      told = λ e. both_hold c s (t (or_left b w e)) (a.told (or_right b w e));
    }

-- what a token that stands there tells
pub first_told : (t : Placed) (us : List Placed) (s : Bool) → (lexeme_is_spelled t.lexeme ≡ true → s ≡ true) →
    is_half t.lexeme ≡ false →
    Reads (t ∷ us) us (t.from ∷ []) false s
first_told t us s f e lo hi h =
    let less : t.from < t.to = h.2 e in
    record { mid = t.to; between = (h.0, omega (arith, less)); stands = h.4; told = λ w. f h.3 }
