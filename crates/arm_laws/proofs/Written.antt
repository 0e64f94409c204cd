-- The ranges of an arm that breaks no rule have ends that are literals or beside one.
use Rattle.std.proofs.Common.{◌≡◌, inl, inr, zero, suc, ℤ, pos, negsuc, ◌-ℤ◌, ◌-◌, ◌^◌, ◌++◌, Bool, true, false}
use Rattle.std.proofs.Common.{not, ◌&&◌, ◌||◌, List, [], ◌∷◌, map, Option, Some, None, refl, sym, subst, ◌∙◌, arith}
use Rattle.std.specs.Prelude.{int_le, int_lt}
use Rattle.std.specs.List.{Contains}
use Rattle.std.proofs.lemmas.Int.{ints}
use Rattle.match_model.specs.declared.IntKind.{IntKind}
use Rattle.match_model.specs.declared.IntKind.TheVariants as kinds
use Rattle.match_model.specs.declared.Width.{Width}
use Rattle.match_model.specs.declared.Width.TheVariants.{Endless, Bits16, Bits32, Bits64}
use Rattle.match_model.specs.Types.{MType, IntType}
use Rattle.match_model.specs.Numbers.{At, MRange, is_at, kind_range, numbers_of, closed}
use Rattle.match_model.specs.Constructors.{MCtor, NumbersCtor}
use Rattle.match_model.specs.ArenaPatterns.{MDePat, de_pat, MDePats, no_de_pats, more_de_pats}
use Rattle.match_model.specs.SourcePatterns.{low_written, high_written, written_range}
use Rattle.match_model.proofs.Basics.{both, either, untrue, int_equal}
use Rattle.number_kinds.specs.Literals.{is_literal_of}
use Rattle.decl_syntax.specs.Items.{ArmTree}
use Rattle.decl_syntax.specs.Functions.{FunctionTree}
use Rattle.decl_syntax.specs.Patterns.{Shape, LitTree, Flag, Char, Byte, Int, Str, Other}
use Rattle.decl_syntax.specs.Patterns as patterns
use Rattle.witness_text.specs.Ranges.{begins_above_literals, ends_below_literals}
use Rattle.pattern_rules.specs.Settings.{Setting}
use Rattle.pattern_rules.specs.Nodes.{Node}
use Rattle.pattern_rules.specs.Faults.{ArmNode}
use Rattle.pattern_rules.specs.Literals.{is_refused, has_type, number_of, is_outside, is_number_of, end_has_type}
use Rattle.pattern_rules.specs.Literals.{end_outside, end_number, range_meant, some_end_refused, same_kind}
use Rattle.match_model.specs.declared.IntKind.TheVariants.{U8}
use Rattle.pattern_rules.specs.NodeRules.{literal_fits, is_numeric, type_met}
use Rattle.pattern_rules.specs.Promises.{literal_range, range_written, IsWritten}
use Rattle.pattern_rules.specs.ArenaForms.{all_within, all_below}
use Rattle.pattern_rules.specs.ShownMatches.{IsSoundArm, elaborated_arm}
use Rattle.pattern_laws.proofs.ArmsKept.{arm_nodes, arm_ranges}
use Rattle.pattern_laws.proofs.Everywhere.{Every, RangeHolds}
use Rattle.pattern_laws.proofs.FineNodes.{NodeFine, AllNodes, arm_fine, either_left, either_right}
use Rattle.arm_laws.specs.FunctionLaws.{WrittenIsNear}
use Rattle.arm_laws.specs.Near.{IsNear, AreNear, HasNodes, HaveNodes}

untwice : (b : Bool) → not b ≡ false → b ≡ true
untwice true h = refl
untwice false h = untrue (sym h)

let_in : (a b : Bool) → (not a && b) ≡ false → a ≡ false → b ≡ false
let_in true b h k = untrue (sym k)
let_in false b h k = h

-- ---- literals

-- the number is neither above the literals nor below them
abbrev IsBetween : IntKind → ℤ → Type 0
IsBetween kind z = (begins_above_literals kind (At z) ≡ false) × (ends_below_literals kind (At z) ≡ false)

not_above : (top low high z : ℤ) → int_le high top ≡ true → (int_le low z && int_le z high) ≡ true → int_lt top z ≡
    false
not_above top low high z h k = grind (arith, ints)

not_below : (least low high z : ℤ) → int_le least low ≡ true → (int_le low z && int_le z high) ≡ true → int_lt z least
    ≡ false
not_below least low high z h k = grind (arith, ints)

drop_false : (b : Bool) → (b || false) ≡ true → b ≡ true
drop_false true h = refl
drop_false false h = untrue h

literal_between : (width : Width) (kind : IntKind) (z : ℤ) → is_literal_of width (IntType kind) z ≡ true → IsBetween
    kind z
literal_between Endless kinds.USize z h = (
  not_above (pos (2 ^ 64 - 1)) (pos 0) (pos (2 ^ 64 - 1)) z refl
      (drop_false _ h),
  refl,
)
literal_between Bits16 kinds.USize z h = (
  not_above (pos (2 ^ 64 - 1)) (pos 0) (pos (2 ^ 16 - 1)) z refl
      (drop_false _ h),
  refl,
)
literal_between Bits32 kinds.USize z h = (
  not_above (pos (2 ^ 64 - 1)) (pos 0) (pos (2 ^ 32 - 1)) z refl
      (drop_false _ h),
  refl,
)
literal_between Bits64 kinds.USize z h = (
  not_above (pos (2 ^ 64 - 1)) (pos 0) (pos (2 ^ 64 - 1)) z refl
      (drop_false _ h),
  refl,
)
literal_between Endless kinds.ISize z h = (
  not_above (pos (2 ^ 63 - 1)) (negsuc (2 ^ 63 - 1)) (pos (2 ^ 63 - 1)) z refl (drop_false _ h),
  not_below (negsuc (2 ^ 63 - 1)) (negsuc (2 ^ 63 - 1)) (pos (2 ^ 63 - 1)) z refl (drop_false _ h),
)
literal_between Bits16 kinds.ISize z h = (
  not_above (pos (2 ^ 63 - 1)) (negsuc (2 ^ 15 - 1)) (pos (2 ^ 15 - 1)) z refl (drop_false _ h),
  not_below (negsuc (2 ^ 63 - 1)) (negsuc (2 ^ 15 - 1)) (pos (2 ^ 15 - 1)) z refl (drop_false _ h),
)
literal_between Bits32 kinds.ISize z h = (
  not_above (pos (2 ^ 63 - 1)) (negsuc (2 ^ 31 - 1)) (pos (2 ^ 31 - 1)) z refl (drop_false _ h),
  not_below (negsuc (2 ^ 63 - 1)) (negsuc (2 ^ 31 - 1)) (pos (2 ^ 31 - 1)) z refl (drop_false _ h),
)
literal_between Bits64 kinds.ISize z h = (
  not_above (pos (2 ^ 63 - 1)) (negsuc (2 ^ 63 - 1)) (pos (2 ^ 63 - 1)) z refl (drop_false _ h),
  not_below (negsuc (2 ^ 63 - 1)) (negsuc (2 ^ 63 - 1)) (pos (2 ^ 63 - 1)) z refl (drop_false _ h),
)
literal_between width _ z h = (refl, refl)

byte_kind : (kind : IntKind) → same_kind U8 kind ≡ true → U8 ≡ kind
byte_kind U8 h = refl
byte_kind kind h = cc

none_some : {A : Type 0} (z : ℤ) → None ≡ Some z → A
none_some z e = absurd cc

-- a literal of an integer type that is in its range
lit_between : (width : Width) (kind : IntKind) (l : LitTree) (z : ℤ) → has_type l (IntType kind) ≡ true →
    is_outside width (IntType kind) l ≡ false → number_of l ≡ Some z → IsBetween kind z
lit_between width kind (Char c) z t o e = untrue t
lit_between width kind (Byte b) z t o e = subst (λ k. IsBetween k z) (byte_kind kind t) (refl, refl)
lit_between width kind (Flag b) z t o e = none_some z e
lit_between width kind (Str text) z t o e = none_some z e
lit_between width kind Other z t o e = none_some z e
lit_between width kind (Int negative size suffix) z t o e =
    literal_between width kind z
    (untwice (is_literal_of width (IntType kind) z)
    (subst (λ x. not (is_number_of width (IntType kind) x) ≡ false) e o))

end_between : (width : Width) (kind : IntKind) (l : Option LitTree) (z : ℤ) → end_has_type l (IntType kind) ≡ true →
    end_outside width (IntType kind) l ≡ false → end_number l ≡ Some z → IsBetween kind z
end_between width kind None z t o e = none_some z e
end_between width kind (Some l) z t o e = lit_between width kind l z t o e

-- ---- ranges

less_still : (top z : ℤ) → int_lt top z ≡ false → int_lt top (z -ℤ pos 1) ≡ false
less_still top z h = grind (arith, ints)

more_still : (least z n : ℤ) → int_lt z least ≡ false → n -ℤ pos 1 ≡ z → int_lt n least ≡ false
more_still least z n h e = grind (arith, ints, e)

one_less : (kind : IntKind) (z : ℤ) → begins_above_literals kind (At z) ≡ false →
    begins_above_literals kind (At (z -ℤ pos 1)) ≡ false
one_less kinds.USize z h = less_still (pos (2 ^ 64 - 1)) z h
one_less kinds.ISize z h = less_still (pos (2 ^ 63 - 1)) z h
one_less _ z h = refl

one_more : (kind : IntKind) (z n : ℤ) → ends_below_literals kind (At z) ≡ false → n -ℤ pos 1 ≡ z →
    ends_below_literals kind (At n) ≡ false
one_more kinds.ISize z n h e = more_still (negsuc (2 ^ 63 - 1)) z n h e
one_more _ z n h e = refl

-- a range that begins at a number between, or ends at one
near_low : (kind : IntKind) (z n : ℤ) → IsBetween kind z → n ≡ z → IsNear kind n
near_low kind z n h e = subst (IsNear kind) (sym e) (one_less kind z h.0, h.1)

near_high : (kind : IntKind) (z n : ℤ) → IsBetween kind z → n -ℤ pos 1 ≡ z → IsNear kind n
near_high kind z n h e =
    (subst (λ m. begins_above_literals kind (At m) ≡ false) (sym e) h.0, one_more kind z n h.1 e)

-- the ends of the type, where it has some
low_end : (width : Width) (kind : IntKind) (z : ℤ) → is_at z (kind_range width kind).low ≡ true → IsBetween kind z
low_end Endless kinds.USize z h = subst (IsBetween kinds.USize) (sym (int_equal z (pos 0) h)) (refl, refl)
low_end Bits16 kinds.USize z h = subst (IsBetween kinds.USize) (sym (int_equal z (pos 0) h)) (refl, refl)
low_end Bits32 kinds.USize z h = subst (IsBetween kinds.USize) (sym (int_equal z (pos 0) h)) (refl, refl)
low_end Bits64 kinds.USize z h = subst (IsBetween kinds.USize) (sym (int_equal z (pos 0) h)) (refl, refl)
low_end Endless kinds.ISize z h = untrue h
low_end Bits16 kinds.ISize z h = subst (IsBetween kinds.ISize) (sym (int_equal z (negsuc (2 ^ 15 - 1)) h)) (refl, refl)
low_end Bits32 kinds.ISize z h = subst (IsBetween kinds.ISize) (sym (int_equal z (negsuc (2 ^ 31 - 1)) h)) (refl, refl)
low_end Bits64 kinds.ISize z h = subst (IsBetween kinds.ISize) (sym (int_equal z (negsuc (2 ^ 63 - 1)) h)) (refl, refl)
low_end width _ z h = (refl, refl)

high_end : (width : Width) (kind : IntKind) (z : ℤ) → is_at z (kind_range width kind).high ≡ true → IsBetween kind z
high_end Endless kinds.USize z h = untrue h
high_end Bits16 kinds.USize z h = subst (IsBetween kinds.USize) (sym (int_equal z (pos (2 ^ 16 - 1)) h)) (refl, refl)
high_end Bits32 kinds.USize z h = subst (IsBetween kinds.USize) (sym (int_equal z (pos (2 ^ 32 - 1)) h)) (refl, refl)
high_end Bits64 kinds.USize z h = subst (IsBetween kinds.USize) (sym (int_equal z (pos (2 ^ 64 - 1)) h)) (refl, refl)
high_end Endless kinds.ISize z h = untrue h
high_end Bits16 kinds.ISize z h = subst (IsBetween kinds.ISize) (sym (int_equal z (pos (2 ^ 15 - 1)) h)) (refl, refl)
high_end Bits32 kinds.ISize z h = subst (IsBetween kinds.ISize) (sym (int_equal z (pos (2 ^ 31 - 1)) h)) (refl, refl)
high_end Bits64 kinds.ISize z h = subst (IsBetween kinds.ISize) (sym (int_equal z (pos (2 ^ 63 - 1)) h)) (refl, refl)
high_end width _ z h = (refl, refl)

back_again : (n z : ℤ) → n -ℤ pos 1 ≡ z -ℤ pos 1 → n ≡ z
back_again n z e = omega (arith, ints, e)

module _ (width : Width) (kind : IntKind) where
  -- the numbers that may be there are between
  abbrev AreBetween : Option ℤ → Type 0
  AreBetween o = (z : ℤ) → o ≡ Some z → IsBetween kind z

  low_near : (low : Option ℤ) → AreBetween low → (n : ℤ) →
      is_at n (low_written (numbers_of width (IntType kind)) low) ≡ true → IsNear kind n
  low_near None h n e = near_low kind n n (low_end width kind n e) refl
  low_near (Some z) h n e = near_low kind z n (h z refl) (int_equal n z e)

  high_near : (inclusive : Bool) (high : Option ℤ) → AreBetween high → (n : ℤ) →
      is_at (n -ℤ pos 1) (high_written (numbers_of width (IntType kind)) inclusive high) ≡ true → IsNear kind n
  high_near i None h n e = near_high kind (n -ℤ pos 1) n (high_end width kind (n -ℤ pos 1) e) refl
  high_near true (Some z) h n e = near_high kind z n (h z refl) (int_equal (n -ℤ pos 1) z e)
  high_near false (Some z) h n e =
      near_low kind z n (h z refl) (back_again n z (int_equal (n -ℤ pos 1) (z -ℤ pos 1) e))

  range_near : (low high : Option ℤ) (inclusive : Bool) → AreBetween low → AreBetween high →
      AreNear (IntType kind) (NumbersCtor (written_range width (IntType kind) low inclusive high))
  range_near low high i h k n e =
      elim (either (is_at n (low_written (numbers_of width (IntType kind)) low))
      (is_at (n -ℤ pos 1) (high_written (numbers_of width (IntType kind)) i high)) e) [
        | inl a ↦ low_near low h n a
        | inr a ↦ high_near i high k n a
      ]

  one_near : (z : ℤ) → IsBetween kind z → AreNear (IntType kind) (NumbersCtor (closed z z))
  one_near z h n e =
      elim (either (is_at n (At z)) (is_at (n -ℤ pos 1) (At z)) e) [
        | inl a ↦ near_low kind z n h (int_equal n z a)
        | inr a ↦ near_high kind z n h (int_equal (n -ℤ pos 1) z a)
      ]

-- ---- nodes

by_type : (r : MRange) (t : MType) → ((kind : IntKind) → t ≡ IntType kind → AreNear (IntType kind) (NumbersCtor r)) →
    AreNear t (NumbersCtor r)
by_type r (IntType kind) f = f kind refl
by_type r _ f = tt

same_range : (q r : MRange) → Some q ≡ Some r → q ≡ r
same_range q r e = cc

none_range : {A : Type 0} (r : MRange) → None ≡ Some r → A
none_range r e = absurd cc

number_type : (l : LitTree) (t u : MType) (z : ℤ) → number_of l ≡ Some z → literal_fits l t u ≡ true → has_type l u ≡
    true
number_type (Str text) t u z e h = none_some z e
number_type (Char c) t u z e h = h
number_type (Byte b) t u z e h = h
number_type (Flag b) t u z e h = h
number_type Other t u z e h = h
number_type (Int negative size suffix) t u z e h = h

module _ (s : Setting) where
  literal_near : (t u : MType) (l : LitTree) (r : MRange) → is_refused l ≡ false →
      (not (is_refused l) && not (literal_fits l t u)) ≡ false →
      (not (is_refused l) && is_outside s.width u l) ≡ false → literal_range l ≡ Some r → AreNear u (NumbersCtor r)
  literal_near t u l r k h o e = go (number_of l) refl
    where
      go : (x : Option ℤ) → number_of l ≡ x → AreNear u (NumbersCtor r)
      go None g = let none : literal_range l ≡ None = rw g refl in none_range r (sym none ∙ e)
      go (Some z) g =
          let one : literal_range l ≡ Some (closed z z) = rw g refl in
          let fit = number_type l t u z g (untwice (literal_fits l t u)
          (let_in (is_refused l) (not (literal_fits l t u)) h k)) in
          let inside = let_in (is_refused l) (is_outside s.width u l) o k in
          subst (λ q. AreNear u (NumbersCtor q)) (same_range (closed z z) r (sym one ∙ e))
          (by_type (closed z z) u (λ kind same. one_near s.width kind z
          (lit_between s.width kind l z (subst (λ v. has_type l v ≡ true) same fit)
          (subst (λ v. is_outside s.width v l ≡ false) same inside) g)))

  span_near : (u : MType) (low high : Option LitTree) (c : Bool) → some_end_refused low high ≡ false →
      (not (some_end_refused low high) && not (is_numeric u && (end_has_type low u && end_has_type high u))) ≡ false →
      (not (some_end_refused low high) && (end_outside s.width u low || end_outside s.width u high)) ≡ false →
      AreNear u (NumbersCtor (range_meant s.width u low high c))
  span_near u low high c k h o =
      let types = both (is_numeric u) (end_has_type low u && end_has_type high u)
      (untwice (is_numeric u && (end_has_type low u && end_has_type high u))
      (let_in (some_end_refused low high) (not (is_numeric u && (end_has_type low u && end_has_type high u))) h k)) in
      let fit = both (end_has_type low u) (end_has_type high u) types.1 in
      let inside = let_in (some_end_refused low high) (end_outside s.width u low || end_outside s.width u high) o k in
      by_type (range_meant s.width u low high c) u
      (λ kind same. subst (λ v. AreNear (IntType kind) (NumbersCtor (range_meant s.width v low high c))) (sym same)
      (range_near s.width kind (end_number low) (end_number high) c
      (λ z e. end_between s.width kind low z (subst (λ v. end_has_type low v ≡ true) same fit.0)
      (subst (λ v. end_outside s.width v low ≡ false) same (either_left (end_outside s.width u low)
      (end_outside s.width u high) inside)) e)
      (λ z e. end_between s.width kind high z (subst (λ v. end_has_type high v ≡ true) same fit.1)
      (subst (λ v. end_outside s.width v high ≡ false) same
      (either_right (end_outside s.width u low) (end_outside s.width u high) inside)) e)))

  shape_near : (n : Node) (shape : Shape) (r : MRange) → NodeFine s (record n { shape = shape }) →
      range_written s (record n { shape = shape }) ≡ Some r → AreNear (type_met n) (NumbersCtor r)
  shape_near n (patterns.Literal l) r f e = literal_near n.place.type (type_met n) l r f.kind f.type f.range e
  shape_near n (patterns.Range low high c) r f e =
      subst (λ q. AreNear (type_met n) (NumbersCtor q)) (same_range (range_meant s.width (type_met n) low high c) r e)
      (span_near (type_met n) low high c f.kind f.type f.range)
  shape_near n patterns.Wild r f e = none_range r e
  shape_near n patterns.Rest r f e = none_range r e
  shape_near n (patterns.Name name) r f e = none_range r e
  shape_near n (patterns.Bind name by_ref mutable) r f e = none_range r e
  shape_near n (patterns.BindAs name by_ref mutable p) r f e = none_range r e
  shape_near n (patterns.Path path) r f e = none_range r e
  shape_near n (patterns.TupleForm path ps) r f e = none_range r e
  shape_near n (patterns.Brace path fs rest) r f e = none_range r e
  shape_near n (patterns.Tuple ps) r f e = none_range r e
  shape_near n (patterns.Group p) r f e = none_range r e
  shape_near n (patterns.Slice ps) r f e = none_range r e
  shape_near n (patterns.Point mutable p) r f e = none_range r e
  shape_near n (patterns.Or ps) r f e = none_range r e

-- ---- arms

module _ (s : Setting) (f : FunctionTree) (a : ArmTree) (h : IsSoundArm s f a) where
  -- the node is one that passes the tests
  fine_at : (ns : List Node) → AllNodes (λ n. NodeFine s n) ns → (x : ArmNode) →
      Contains (map (λ n. record { arm = 0; node = n }) ns) x → NodeFine s x.node
  fine_at [] g x (k, l, e) = absurd (omega (arith, l))
  fine_at (n ∷ ns) g x (zero, l, e) = subst (λ (y : ArmNode). NodeFine s y.node) e g.0
  fine_at (n ∷ ns) g x (suc k, l, e) = fine_at ns g.1 x (k, omega (arith, l), e)

  written_near : (t : MType) (r : MRange) → IsWritten s f a t r → AreNear t (NumbersCtor r)
  written_near t r w =
      subst (λ u. AreNear u (NumbersCtor r)) w.type_is
      (shape_near s w.node.node w.node.node.shape r
      (fine_at (arm_nodes s f a) (arm_fine s f a h.fine h.among) w.node w.among) w.range_is)

  node_near : (c : MCtor) (t : MType) → ((r : MRange) → c ≡ NumbersCtor r → IsWritten s f a t r) → AreNear t c
  node_near (NumbersCtor r) t k = written_near t r (k r refl)
  node_near _ (IntType kind) k = tt
  node_near _ _ k = tt

  every_left : (E : MDePat MType → Type 0) (xs ys : List (MDePat MType)) → Every E (xs ++ ys) → Every E xs
  every_left E [] ys g = tt
  every_left E (x ∷ xs) ys g = (g.0, every_left E xs ys g.1)

  every_right : (E : MDePat MType → Type 0) (xs ys : List (MDePat MType)) → Every E (xs ++ ys) → Every E ys
  every_right E [] ys g = g
  every_right E (x ∷ xs) ys g = every_right E xs ys g.1

  abbrev Holds : MDePat MType → Type 0
  Holds = RangeHolds (λ w t. IsWritten s f a t w)

  mutual
    nodes_near : (p : MDePat MType) → Every (RangeHolds (λ w t. IsWritten s f a t w)) (all_within p) → HasNodes
        AreNear p
    nodes_near (de_pat c t uid at subs binds) g = (node_near c t g.0, below_near subs g.1)

    below_near : (ps : MDePats MType) → Every (RangeHolds (λ w t. IsWritten s f a t w)) (all_below ps) → HaveNodes
        AreNear ps
    below_near no_de_pats g = tt
    below_near (more_de_pats p ps) g = (
      nodes_near p (every_left Holds (all_within p) (all_below ps) g),
      below_near ps
          (every_right Holds (all_within p) (all_below ps) g),
    )

pub written_is_near : WrittenIsNear
written_is_near s f a h = nodes_near s f a h (elaborated_arm s f a) (arm_ranges s f a h)
