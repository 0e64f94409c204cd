-- The steps of the walk that tells what nodes bind.
use Rattle.std.proofs.Common.{◌≡◌, ℕ, ◌+◌, ◌-◌, ◌<◌, add-one, Bool, true, false, not, ◌&&◌, ◌||◌, List, [], ◌∷◌, ◌++◌, length, take, get_or, Option, Some, None, refl, sym, ap, subst, ◌∙◌, arith}
use Rattle.std.proofs.Math.Seq.{take-suc}
use Rattle.std.specs.List.{cons_option}
use Rattle.std.proofs.lemmas.List.Elements.{filter_map-append}
use Rattle.match_model.specs.declared.Mode.{Mode}
use Rattle.match_model.specs.RustTypes.{inner_type}
use Rattle.match_model.specs.Types.{MType, ArrayType}
use Rattle.decl_syntax.specs.declared.tree.Pat.{Pat}
use Rattle.decl_syntax.specs.Patterns.{PatternTree, At, Rest, BindAs, Or, PatternTrees, none, more, pattern_view}
use Rattle.pattern_rules.specs.Settings.{Setting, Place, place, rest_type}
use Rattle.pattern_rules.specs.Nodes.{Node, Standing, AsItem, nodes, alternative_nodes, slice_item_type, is_rest, offset_of, shape_of}
use Rattle.pattern_rules.specs.OtherRules.{BoundName, are_among, bound_by, bound_in, some_differs, some_differ}
use Rattle.pattern_rules.specs.Faults.{node_rules, alternative_rules}
use Rattle.pattern_rules.specs.FirstFault.{least_broken}
use Rattle.pattern_check.specs.declared.fault.NodeFault.{NodeFault}
use Rattle.pattern_check.specs.NodeForms.{node_at, pick}
use Rattle.pattern_check.specs.Walks.{fault_at, earlier, first_in}
use Rattle.pattern_check.specs.BoundSets.{shortened, is_bound, Binds, bound_list, bounds_of, Told, ToldBelow, IsFirst}
use Rattle.pattern_check.proofs.WalkSteps.{first_append, list_of}
use Rattle.pattern_check.proofs.SetLemmas.{among_like, bound_append, binds_none, binds_both}

pub none_left : (a b : Option NodeFault) → earlier a b ≡ None → a ≡ None
none_left None b e = refl
none_left (Some x) b e = absurd cc

pub none_right : (a b : Option NodeFault) → earlier a b ≡ None → b ≡ None
none_right None b e = e
none_right (Some x) b e = absurd cc

pub no_rule : (at : ℕ) (o : Option ℕ) → fault_at at o ≡ None → None ≡ o
no_rule at None e = refl
no_rule at (Some rule) e = absurd cc

earlier_three : (a b c : Option NodeFault) → earlier (earlier a b) c ≡ earlier a (earlier b c)
earlier_three None b c = refl
earlier_three (Some x) b c = refl

pub earlier_none : (a : Option NodeFault) → a ≡ earlier a None
earlier_none None = refl
earlier_none (Some x) = refl

or_false : (b : Bool) → b ≡ (b || false)
or_false true = refl
or_false false = refl

or_both : (a b c : Bool) → ((a || b) || c) ≡ (a || (b || c))
or_both true b c = refl
or_both false b c = refl

-- what is known on the way: of all nodes these are left, which break no rule by themselves
pub record Sofar (s : Setting) (old cur : List BoundName) (found : Option NodeFault) (all left : List Node) : Type 0 where
  pub fine : first_in node_rules s left ≡ None
  pub fault : earlier found (first_in alternative_rules s left) ≡ first_in alternative_rules s all
  pub binds : (q : BoundName) → (is_bound q cur || is_bound q (bounds_of s left)) ≡ (is_bound q old || is_bound q (bounds_of s all))

pub sofar_start : (s : Setting) (old : List BoundName) (all : List Node) → first_in node_rules s all ≡ None → Sofar s old old None all all
sofar_start s old all e = record { fine = e; fault = refl; binds = λ q. refl }

-- the next nodes break no rule by themselves
pub sofar_here : (s : Setting) (old cur : List BoundName) (found : Option NodeFault) (all left here later : List Node) → Sofar s old cur found all left → left ≡ here ++ later → first_in node_rules s here ≡ None
sofar_here s old cur found all left here later so e =
    none_left (first_in node_rules s here) (first_in node_rules s later)
    (sym (first_append node_rules s here later) ∙ (ap (λ (ns : List Node). first_in node_rules s ns) (sym e) ∙ so.fine))

pub sofar_step : (s : Setting) (old cur new : List BoundName) (found r : Option NodeFault) (all left here later : List Node) → Sofar s old cur found all left → left ≡ here ++ later →
    (first_in node_rules s here ≡ None → Told s cur new r here) → Sofar s old new (earlier found r) all later
sofar_step s old cur new found r all left here later so e f =
    let both : earlier (first_in node_rules s here) (first_in node_rules s later) ≡ None
    = sym (first_append node_rules s here later) ∙ (ap (λ (ns : List Node). first_in node_rules s ns) (sym e) ∙ so.fine) in
    let told = f (none_left (first_in node_rules s here) (first_in node_rules s later) both) in
    record {
      fine = none_right (first_in node_rules s here) (first_in node_rules s later) both;
      fault =
          earlier_three found r (first_in alternative_rules s later)
          ∙ (ap (λ (o : Option NodeFault). earlier found (earlier o (first_in alternative_rules s later))) told.fault
          ∙ (ap (λ (o : Option NodeFault). earlier found o) (sym (first_append alternative_rules s here later))
          ∙ (ap (λ (ns : List Node). earlier found (first_in alternative_rules s ns)) (sym e) ∙ so.fault)));
      binds = λ q.
          ap (λ (b : Bool). b || is_bound q (bounds_of s later)) (told.binds q)
          ∙ (or_both (is_bound q cur) (is_bound q (bounds_of s here)) (is_bound q (bounds_of s later))
          ∙ (ap (λ (b : Bool). is_bound q cur || b)
          (sym (bound_append q (bounds_of s here) (bounds_of s later)) ∙ ap (λ (bs : List BoundName). is_bound q bs) (sym (filter_map-append (bound_by s) here later)))
          ∙ (ap (λ (ns : List Node). is_bound q cur || is_bound q (bounds_of s ns)) (sym e) ∙ so.binds q)));
    }

pub sofar_end : (s : Setting) (old cur : List BoundName) (found : Option NodeFault) (all left : List Node) → Sofar s old cur found all left → left ≡ [] → Told s old cur found all
sofar_end s old cur found all left so e = record {
  fault = earlier_none found ∙ (ap (λ (ns : List Node). earlier found (first_in alternative_rules s ns)) (sym e) ∙ so.fault);
  binds = λ q. or_false (is_bound q cur) ∙ (ap (λ (ns : List Node). is_bound q cur || is_bound q (bounds_of s ns)) (sym e) ∙ so.binds q);
}

-- what the first of these alternatives binds is noted, if one was seen
abbrev pub FirstOf : Setting → Place → (seen : Bool) → List BoundName → PatternTrees → Type 0
FirstOf s p seen first none = (seen ≡ false) × (first ≡ [])
FirstOf s p seen first (more q qs) = (seen ≡ true) × ((x : BoundName) → is_bound x first ≡ is_bound x (bound_in s p q))

-- the alternatives that were seen: what the first one binds, and whether another one does not
pub record Compared (s : Setting) (p : Place) (seen differ : Bool) (first : List BoundName) (qs : PatternTrees) : Type 0 where
  pub first_of : FirstOf s p seen first qs
  pub differs : differ ≡ some_differ s p qs

pub compared_none : (s : Setting) (p : Place) (first : List BoundName) → first ≡ [] → Compared s p false false first none
compared_none s p first e = record { first_of = (refl, e); differs = refl }

module _ (s : Setting) (p : Place) (a : Pat) where
  -- whether the alternative does not bind what these are
  other : List BoundName → Bool
  other bs = not (are_among bs (bound_in s p (pattern_view a)) && are_among (bound_in s p (pattern_view a)) bs)

  one_more : (bs : List BoundName) (ps : List Pat) → (some_differs s p bs (list_of ps) || not (are_among bs (bound_in s p (pattern_view a)) && are_among (bound_in s p (pattern_view a)) bs))
      ≡ some_differs s p bs (list_of (ps ++ a ∷ []))
  one_more bs [] = or_false (not (are_among bs (bound_in s p (pattern_view a)) && are_among (bound_in s p (pattern_view a)) bs))
  one_more bs (x ∷ ps) =
      let b = not (are_among bs (bound_in s p (pattern_view x)) && are_among (bound_in s p (pattern_view x)) bs) in
      or_both b (some_differs s p bs (list_of ps)) (not (are_among bs (bound_in s p (pattern_view a)) && are_among (bound_in s p (pattern_view a)) bs))
      ∙ ap (λ (t : Bool). b || t) (one_more bs ps)

  compared_last : (ps : List Pat) (seen differ : Bool) (first new own : List BoundName) (answer : Bool) → Compared s p seen differ first (list_of ps) → IsFirst seen first new own answer →
      ((x : BoundName) → is_bound x own ≡ is_bound x (bound_in s p (pattern_view a))) → Compared s p true (differ || answer) new (list_of (ps ++ a ∷ []))
  compared_last [] true differ first new own answer c f h = absurd (true_false c.first_of.0)
    where
      true_false : true ≡ false → ⊥
      true_false e = cc
  compared_last [] false differ first new own answer c f h = record {
    first_of = (refl, λ x. f.1 x ∙ (ap (λ (bs : List BoundName). is_bound x bs || is_bound x own) c.first_of.1 ∙ h x));
    differs = ap (λ (t : Bool). t || answer) c.differs ∙ f.0;
  }
  compared_last (x ∷ ps) false differ first new own answer c f h = absurd (false_true c.first_of.0)
    where
      false_true : false ≡ true → ⊥
      false_true e = cc
  compared_last (x ∷ ps) true differ first new own answer c f h =
      let b = bound_in s p (pattern_view a) in
      let d = bound_in s p (pattern_view x) in
      let told : not (are_among first own && are_among own first) ≡ not (are_among d b && are_among b d)
      = ap (λ (t : Bool). not (t && are_among own first)) (among_like first d own b c.first_of.1 h) ∙ ap (λ (t : Bool). not (are_among d b && t)) (among_like own b first d h c.first_of.1) in
      record {
        first_of = (refl, λ y. ap (λ (bs : List BoundName). is_bound y bs) f.1 ∙ c.first_of.1 y);
        differs =
            ap (λ (t : Bool). t || answer) c.differs
            ∙ (ap (λ (t : Bool). some_differs s p d (list_of ps) || t) (f.0 ∙ told) ∙ one_more d ps);
      }

  pub compared_step : (items : List Pat) (i : ℕ) (seen differ : Bool) (first new own : List BoundName) (answer : Bool) → i < length items → a ≡ get_or items i a →
      Compared s p seen differ first (list_of (take i items)) → IsFirst seen first new own answer →
      ((x : BoundName) → is_bound x own ≡ is_bound x (bound_in s p (pattern_view a))) → Compared s p true (differ || answer) new (list_of (take (i + 1) items))
  compared_step items i seen differ first new own answer lt e c f h =
      let longer : take (i + 1) items ≡ take i items ++ a ∷ [] = ap (λ (k : ℕ). take k items) (add-one i) ∙ (take-suc items i a lt ∙ ap (λ (q : Pat). take i items ++ q ∷ []) (sym e)) in
      subst (λ (ps : List Pat). Compared s p true (differ || answer) new (list_of ps)) (sym longer) (compared_last (take i items) seen differ first new own answer c f h)

-- the type of a rest, and the whole type
pub rest_is : (t : MType) (items taken : ℕ) → taken ≡ items - 1 → shortened t taken ≡ rest_type t items
rest_is (ArrayType t n) items taken e = ap (λ (k : ℕ). ArrayType t (n - k)) e
rest_is t items taken e = refl

pub whole_is : (t : MType) → shortened t 0 ≡ t
whole_is (ArrayType t n) =
    let all : n - 0 ≡ n = omega arith in
    ap (λ (k : ℕ). ArrayType t k) all
whole_is t = refl

-- a node that binds what it does, and those below it
module _ (s : Setting) (n : Node) (ns : List Node) where
  pub fine_own : first_in node_rules s (n ∷ ns) ≡ None → None ≡ least_broken node_rules s n
  fine_own e = no_rule n.at (least_broken node_rules s n) (none_left (fault_at n.at (least_broken node_rules s n)) (first_in node_rules s ns) e)

  pub fine_below : first_in node_rules s (n ∷ ns) ≡ None → first_in node_rules s ns ≡ None
  fine_below e = none_right (fault_at n.at (least_broken node_rules s n)) (first_in node_rules s ns) e

  -- a node that is no or-pattern
  pub told_below : (old new : List BoundName) (r : Option NodeFault) → None ≡ least_broken alternative_rules s n → first_in node_rules s (n ∷ ns) ≡ None →
      (first_in node_rules s ns ≡ None → Told s old new r ns) → ToldBelow s old new r n ns
  told_below old new r e fine f =
      let told = f (fine_below fine) in
      record {
        fault = told.fault ∙ ap (λ (o : Option ℕ). earlier (fault_at n.at o) (first_in alternative_rules s ns)) e;
        binds = told.binds;
      }

  pub told_node : (old mid new : List BoundName) (r : Option NodeFault) → Binds old mid (bound_list (bound_by s n)) → ToldBelow s mid new r n ns → Told s old new r (n ∷ ns)
  told_node old mid new r own told = record {
    fault = told.fault;
    binds = subst (λ (bs : List BoundName). Binds old new bs) (joined (bound_by s n)) (binds_both old mid new (bound_list (bound_by s n)) (bounds_of s ns) own told.binds);
  }
    where
      joined : (o : Option BoundName) → bound_list o ++ bounds_of s ns ≡ cons_option o (bounds_of s ns)
      joined None = refl
      joined (Some b) = refl

-- a node with nothing below it
pub told_leaf : (s : Setting) (n : Node) (old : List BoundName) → None ≡ least_broken alternative_rules s n → ToldBelow s old old None n []
told_leaf s n old e = record {
  fault = ap (λ (o : Option ℕ). earlier (fault_at n.at o) None) e;
  binds = binds_none old;
}

-- an or-pattern
pub told_ways : (s : Setting) (old new : List BoundName) (p : Place) (from : ℕ) (st : Standing) (before : List (List ℕ)) (qs : PatternTrees) (seen differ : Bool) (first : List BoundName) (found r : Option NodeFault) →
    r ≡ earlier (fault_at from (pick differ 31 None)) found → Compared s p seen differ first qs → Told s old new found (alternative_nodes s before p qs) →
    ToldBelow s old new r (node_at from (Or qs) st p before) (alternative_nodes s before p qs)
told_ways s old new p from st before qs seen differ first found r e c told = record {
  fault =
      e
      ∙ (ap (λ (b : Bool). earlier (fault_at from (pick b 31 None)) found) c.differs
      ∙ ap (λ (o : Option NodeFault). earlier (fault_at from (pick (some_differ s p qs) 31 None)) o) told.fault);
  binds = told.binds;
}

-- what a rest binds, and what the whole list does
pub told_rest : (s : Setting) (old new : List BoundName) (b : List (List ℕ)) (t : MType) (count : ℕ) (m : Mode) (q : PatternTree) → is_rest q ≡ true →
    Told s old new None (nodes s AsItem b (place (rest_type t count) m) q) → Told s old new None (nodes s AsItem b (place (slice_item_type t count q) m) q)
told_rest s old new b t count m q h told = rw h told

pub told_item : (s : Setting) (old new : List BoundName) (b : List (List ℕ)) (t : MType) (count : ℕ) (m : Mode) (q : PatternTree) (r : Option NodeFault) → is_rest q ≡ false →
    first_in node_rules s (nodes s AsItem b (place (slice_item_type t count q) m) q) ≡ None →
    (first_in node_rules s (nodes s AsItem b (place (inner_type t) m) q) ≡ None → Told s old new r (nodes s AsItem b (place (inner_type t) m) q)) →
    Told s old new r (nodes s AsItem b (place (slice_item_type t count q) m) q)
told_item s old new b t count m q r h fine told =
    let same : slice_item_type t count q ≡ inner_type t = rw h refl in
    subst (λ (u : MType). first_in node_rules s (nodes s AsItem b (place u m) q) ≡ None → Told s old new r (nodes s AsItem b (place u m) q)) (sym same) told fine

-- below a rest nothing is bound
pub rest_below : (s : Setting) (old new : List BoundName) (b : List (List ℕ)) (p : Place) (q : PatternTree) → is_rest q ≡ true →
    Binds old new (bound_list (bound_by s (node_at (offset_of q) (shape_of q) AsItem p b))) → Told s old new None (nodes s AsItem b p q)
rest_below s old new b p (At from Rest) h binds = record { fault = refl; binds = binds }
rest_below s old new b p (At from (BindAs name by_ref mutable (At f Rest))) h binds = record { fault = refl; binds = binds }
rest_below s old new b p q h binds = absurd cc
