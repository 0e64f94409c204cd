-- Pieces of a column whose heads have literal ends: a range beyond the literals is open there.
use Rattle.std.proofs.Common.{◌≡◌, inl, inr, ℤ, pos, negsuc, ◌+ℤ◌, ◌-ℤ◌, ◌-◌, ◌^◌, Bool, true, false, ◌&&◌, ◌||◌}
use Rattle.std.proofs.Common.{List, [], ◌∷◌, ◌++◌, map, refl, sym, ap, subst, ◌∙◌, arith}
use Rattle.std.specs.Prelude.{int_le, int_lt}
use Rattle.std.specs.List.{filter_map}
use Rattle.std.proofs.lemmas.Int.{ints}
use Rattle.match_model.specs.declared.IntKind.{IntKind}
use Rattle.match_model.specs.declared.IntKind.TheVariants as kinds
use Rattle.match_model.specs.declared.Width.{Width}
use Rattle.match_model.specs.declared.Width.TheVariants.{Endless, Bits16, Bits32, Bits64}
use Rattle.match_model.specs.Types.{MType, IntType}
use Rattle.match_model.specs.Declarations.{MProgram}
use Rattle.match_model.specs.Lists.{Among, Every}
use Rattle.match_model.specs.Numbers.{MEnd, Free, At, MRange, in_range, is_at, kind_range}
use Rattle.match_model.specs.Constructors.{MCtor, NumbersCtor}
use Rattle.match_model.specs.Pieces.{ArePieces, range_of, is_cut_at}
use Rattle.match_model.specs.RustTypes.{rust_set}
use Rattle.match_model.proofs.Basics.{untrue}
use Rattle.witness_text.specs.Ranges.{begins_above_literals, ends_below_literals}
use Rattle.arm_laws.specs.Near.{IsNear, AreNear}
use Rattle.arm_laws.proofs.Bases.{IsOpenBeyond, IsOpenCtor}
use Rattle.arm_laws.proofs.Follows.{IsLow, IsHigh, HasEnds, ends}

pub heads_near : (kind : IntKind) (heads : List MCtor) → Every (AreNear (IntType kind)) heads → (n : ℤ) →
    is_cut_at (filter_map range_of heads) n ≡ true → IsNear kind n
heads_near kind [] h n e = untrue e
heads_near kind (NumbersCtor r ∷ heads) h n e =
    go (is_at n r.low || is_at (n -ℤ pos 1) r.high) refl e (heads_near kind heads h.1 n)
  where
    go : (b : Bool) → (is_at n r.low || is_at (n -ℤ pos 1) r.high) ≡ b →
        (b || is_cut_at (filter_map range_of heads) n) ≡ true →
        (is_cut_at (filter_map range_of heads) n ≡ true → IsNear kind n) → IsNear kind n
    go true f e k = h.0 n f
    go false f e k = k e
heads_near kind (_ ∷ heads) h n e = heads_near kind heads h.1 n e

-- the numbers of the type are not beyond the literals, where they end
whole_high : (width : Width) (kind : IntKind) → begins_above_literals kind (kind_range width kind).high ≡ false
whole_high Endless kinds.USize = refl
whole_high Bits16 kinds.USize = refl
whole_high Bits32 kinds.USize = refl
whole_high Bits64 kinds.USize = refl
whole_high Endless kinds.ISize = refl
whole_high Bits16 kinds.ISize = refl
whole_high Bits32 kinds.ISize = refl
whole_high Bits64 kinds.ISize = refl
whole_high width _ = refl

whole_low : (width : Width) (kind : IntKind) → ends_below_literals kind (kind_range width kind).low ≡ false
whole_low Endless kinds.ISize = refl
whole_low Bits16 kinds.ISize = refl
whole_low Bits32 kinds.ISize = refl
whole_low Bits64 kinds.ISize = refl
whole_low width _ = refl

one_back : (n : ℤ) → n +ℤ pos 1 -ℤ pos 1 ≡ n
one_back n = omega (arith, ints)

pub high_near : (width : Width) (kind : IntKind) (e : MEnd) → IsHigh (IsNear kind) (kind_range width kind).high e →
    begins_above_literals kind e ≡ false
high_near width kind e (inl s) = subst (λ x. begins_above_literals kind x ≡ false) (sym s) (whole_high width kind)
high_near width kind e (inr (n, s, q)) =
    subst (λ x. begins_above_literals kind x ≡ false) (sym s)
    (subst (λ m. begins_above_literals kind (At m) ≡ false) (one_back n) q.0)

pub low_near : (width : Width) (kind : IntKind) (e : MEnd) → IsLow (IsNear kind) (kind_range width kind).low e →
    ends_below_literals kind e ≡ false
low_near width kind e (inl s) = subst (λ x. ends_below_literals kind x ≡ false) (sym s) (whole_low width kind)
low_near width kind e (inr (n, s, q)) = subst (λ x. ends_below_literals kind x ≡ false) (sym s) q.1

-- a number lies between the ends
between_above : (top n m x : ℤ) → int_lt top n ≡ true → int_lt top m ≡ false → (int_le n x && int_le x m) ≡ true → ⊥
between_above top n m x a b h = grind (arith, ints)

between_below : (least n m x : ℤ) → int_lt m least ≡ true → int_lt n least ≡ false → (int_le n x && int_le x m) ≡ true
    → ⊥
between_below least n m x a b h = grind (arith, ints)

squeeze_above : (kind : IntKind) (n m x : ℤ) → begins_above_literals kind (At n) ≡ true →
    begins_above_literals kind (At m) ≡ false → (int_le n x && int_le x m) ≡ true → ⊥
squeeze_above kinds.USize n m x a b h = between_above (pos (2 ^ 64 - 1)) n m x a b h
squeeze_above kinds.ISize n m x a b h = between_above (pos (2 ^ 63 - 1)) n m x a b h
squeeze_above _ n m x a b h = untrue a

squeeze_below : (kind : IntKind) (n m x : ℤ) → ends_below_literals kind (At m) ≡ true →
    ends_below_literals kind (At n) ≡ false → (int_le n x && int_le x m) ≡ true → ⊥
squeeze_below kinds.ISize n m x a b h = between_below (negsuc (2 ^ 63 - 1)) n m x a b h
squeeze_below _ n m x a b h = untrue a

begins_free : (kind : IntKind) → begins_above_literals kind Free ≡ true → ⊥
begins_free kinds.USize e = untrue e
begins_free kinds.ISize e = untrue e
begins_free _ e = untrue e

ends_free : (kind : IntKind) → ends_below_literals kind Free ≡ true → ⊥
ends_free kinds.ISize e = untrue e
ends_free _ e = untrue e

open_ends : (kind : IntKind) (low high : MEnd) (x : ℤ) → begins_above_literals kind high ≡ false →
    ends_below_literals kind low ≡ false → in_range (record { low = low; high = high }) x ≡ true →
    IsOpenBeyond (IntType kind) (record { low = low; high = high })
open_ends kind Free Free x a b h = ((λ e. refl), (λ e. refl))
open_ends kind Free (At m) x a b h = ((λ e. absurd (begins_free kind e)), (λ e. refl))
open_ends kind (At n) Free x a b h = ((λ e. refl), (λ e. absurd (ends_free kind e)))
open_ends kind (At n) (At m) x a b h =
    ((λ e. absurd (squeeze_above kind n m x e a h)), (λ e. absurd (squeeze_below kind n m x e b h)))

-- each range is open beyond the literals
open_each : (width : Width) (kind : IntKind) (ps : List MRange) →
    Every (HasEnds (IsNear kind) (kind_range width kind).low (kind_range width kind).high) ps →
    (p : MCtor) → Among p (map NumbersCtor ps) → IsOpenCtor (IntType kind) p
open_each width kind [] h p a = absurd a
open_each width kind (r ∷ ps) ((a, b, (x, y)), h) p (inl e) =
    subst (λ c. IsOpenCtor (IntType kind) c) (sym e)
    (open_ends kind r.low r.high x (high_near width kind r.high b) (low_near width kind r.low a) y)
open_each width kind (r ∷ ps) h p (inr a) = open_each width kind ps h.1 p a

pub append_none : (ps qs : List MRange) → qs ≡ [] → map NumbersCtor (ps ++ qs) ≡ map NumbersCtor ps
append_none ps qs e = ap (λ xs. map NumbersCtor (ps ++ xs)) e ∙ gone ps
  where
    gone : (ps : List MRange) → map NumbersCtor (ps ++ []) ≡ map NumbersCtor ps
    gone [] = refl
    gone (p ∷ ps) = ap (λ xs. NumbersCtor p ∷ xs) (gone ps)

-- so is each piece of a column whose heads have near ends
pub open_piece : (program : MProgram) (t : MType) (heads pieces : List MCtor) (p : MCtor) →
    ArePieces (rust_set program t) heads pieces → Every (AreNear t) heads → Among p pieces → IsOpenCtor t p
open_piece program (IntType kind) heads pieces p (ps, qs, c, d, e) h a =
    open_each program.width kind ps
    (ends (IsNear kind) c.together (λ n x y z. heads_near kind heads h n ((c.cut n x y).0 z))) p
    (subst (λ xs. Among p xs) (e ∙ append_none ps qs d) a)
open_piece program _ heads pieces (NumbersCtor r) k h a = tt
open_piece program _ heads pieces _ k h a = tt
