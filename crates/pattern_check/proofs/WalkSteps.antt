-- The steps of a walk over the nodes of patterns.
use Rattle.std.proofs.Common.{◌≡◌, ℕ, ◌+◌, ◌<◌, ◌≤◌, add-one, Bool, true, false, List, [], ◌∷◌, ◌++◌, map, length, take, drop, get_or, Option, Some, None, refl, sym, ap, ◌∙◌, append_assoc, rules}
use Rattle.std.specs.Rc.{rc_str_bytes}
use Rattle.std.specs.Prelude.{is_some}
use Rattle.std.proofs.Math.Seq.{drop-cons, take-suc}
use Rattle.std.proofs.lemmas.List.{append-nil, take_all}
use Rattle.match_model.specs.declared.Mode.{Mode}
use Rattle.match_model.specs.Types.{MType}
use Rattle.decl_syntax.specs.declared.tree.Pat.{Pat}
use Rattle.decl_syntax.specs.declared.tree.FieldPat.{FieldPat}
use Rattle.decl_syntax.specs.declared.tree.PatKind.{the_lemmas}
use Rattle.decl_syntax.specs.Patterns.{PatternTree, At, Shape, Rest, Name, Bind, BindAs, PatternTrees, FieldTree, FieldTrees, pattern_view, shape_view, field_view, patterns_from, fields_from}
use Rattle.match_model.specs.RustTypes.{inner_type}
use Rattle.pattern_rules.specs.Settings.{Setting, Place, place}
use Rattle.pattern_rules.specs.Namings.{field_number, is_path_name}
use Rattle.pattern_rules.specs.Nodes.{Node, Standing, AsItem, Elsewhere, nodes, nodes_within, part_nodes, part_behind, field_nodes, field_standing, item_nodes, slice_item_type, alternative_nodes, is_rest, names_bound, names_within, names_of_all, names_of_fields, name_if}
use Rattle.pattern_rules.specs.Faults.{NodeRule, node_rules}
use Rattle.pattern_rules.specs.FirstFault.{least_broken}
use Rattle.pattern_check.specs.declared.fault.NodeFault.{NodeFault}
use Rattle.pattern_check.specs.NodeForms.{node_at}
use Rattle.pattern_check.specs.Walks.{fault_at, earlier, first_in, own_names, inner_names, inner_nodes}

pub first_append : (rules : List NodeRule) (s : Setting) (ns ms : List Node) → first_in rules s (ns ++ ms) ≡ earlier (first_in rules s ns) (first_in rules s ms)
first_append rules s [] ms = refl
first_append rules s (n ∷ ns) ms = by (fault_at n.at (least_broken rules s n)) (first_append rules s ns ms)
  where
    by : (o : Option NodeFault) → first_in rules s (ns ++ ms) ≡ earlier (first_in rules s ns) (first_in rules s ms) →
        earlier o (first_in rules s (ns ++ ms)) ≡ earlier (earlier o (first_in rules s ns)) (first_in rules s ms)
    by None e = e
    by (Some x) e = refl

-- what is told of nodes none of which breaks a rule, and of others behind them
pass : (s : Setting) (ns ms : List Node) → None ≡ first_in node_rules s ns → first_in node_rules s (ns ++ ms) ≡ first_in node_rules s ms
pass s ns ms e = first_append node_rules s ns ms ∙ ap (λ (o : Option NodeFault). earlier o (first_in node_rules s ms)) (sym e)

stop : (s : Setting) (ns ms : List Node) (r : Option NodeFault) → is_some r ≡ true → r ≡ first_in node_rules s ns → r ≡ first_in node_rules s (ns ++ ms)
stop s ns ms None h e = absurd cc
stop s ns ms (Some x) h e = ap (λ (o : Option NodeFault). earlier o (first_in node_rules s ms)) e ∙ sym (first_append node_rules s ns ms)

pub none_is : (r : Option NodeFault) → is_some r ≡ false → r ≡ None
none_is None h = refl
none_is (Some x) h = absurd cc

pub some_none : (r : Option NodeFault) → is_some r ≡ true → r ≡ None → ⊥
some_none None h e = absurd cc
some_none (Some x) h e = absurd cc

-- the patterns of a list
abbrev pub list_of : List Pat → PatternTrees
list_of items = patterns_from (map pattern_view items)

-- a pattern by its parts
pub view_at : (p : Pat) → pattern_view p ≡ At p.from (shape_view p.kind)
view_at p = search (rules, the_lemmas)

from_here : (items : List Pat) (i : ℕ) (p : Pat) → i < length items → p ≡ get_or items i p → list_of (drop i items) ≡ patterns_from (pattern_view p ∷ map pattern_view (drop (i + 1) items))
from_here items i p lt e = rw (drop-cons items i p, add-one, ← e) refl

up_to_here : (s : Setting) (items : List Pat) (i : ℕ) (p : Pat) → i < length items → p ≡ get_or items i p →
    names_of_all s (list_of (take (i + 1) items)) ≡ names_of_all s (list_of (take i items)) ++ names_bound s (pattern_view p)
up_to_here s items i p lt e = rw (add-one, take-suc items i p lt, ← e) (go (take i items))
  where
    go : (ps : List Pat) → names_of_all s (list_of (ps ++ p ∷ [])) ≡ names_of_all s (list_of ps) ++ names_bound s (pattern_view p)
    go [] = append-nil (names_bound s (pattern_view p))
    go (q ∷ ps) = rw (go ps) (sym (append_assoc (names_bound s (pattern_view q)) (names_of_all s (list_of ps)) (names_bound s (pattern_view p))))

pub names_step : (s : Setting) (items : List Pat) (i : ℕ) (p : Pat) → i < length items → p ≡ get_or items i p →
    names_of_all s (list_of (take i items)) ++ names_bound s (pattern_view p) ≡ names_of_all s (list_of (take (i + 1) items))
names_step s items i p lt e = sym (up_to_here s items i p lt e)

-- the names of all items
pub names_end : (s : Setting) (items : List Pat) (i : ℕ) → length items ≤ i → names_of_all s (list_of (take i items)) ≡ names_of_all s (list_of items)
names_end s items i le = ap (λ (xs : List Pat). names_of_all s (list_of xs)) (take_all i items le)

module _ (s : Setting) (before : List (List ℕ)) (items : List Pat) (i : ℕ) (p : Pat) (lt : i < length items) (e : p ≡ get_or items i p) where
  so_far : List (List ℕ)
  so_far = before ++ names_of_all s (list_of (take i items))

  grown : (before ++ names_of_all s (list_of (take i items))) ++ names_bound s (pattern_view p) ≡ before ++ names_of_all s (list_of (take (i + 1) items))
  grown = append_assoc before (names_of_all s (list_of (take i items))) (names_bound s (pattern_view p))
      ∙ ap (λ (ns : List (List ℕ)). before ++ ns) (names_step s items i p lt e)

  -- parts of a tuple or tuple form
  module _ (types : ℕ → MType) (m : Mode) (parts n k : ℕ) (next : k ≡ part_behind parts n (pattern_view p) (list_of (drop (i + 1) items))) where
    pub parts_here : part_nodes s (before ++ names_of_all s (list_of (take i items))) types m parts n (list_of (drop i items))
        ≡ nodes s Elsewhere (before ++ names_of_all s (list_of (take i items))) (place (types n) m) (pattern_view p)
        ++ part_nodes s (before ++ names_of_all s (list_of (take (i + 1) items))) types m parts k (list_of (drop (i + 1) items))
    parts_here = rw (from_here items i p lt e, ← grown, next) refl

    here_parts : first_in node_rules s (part_nodes s (before ++ names_of_all s (list_of (take i items))) types m parts n (list_of (drop i items)))
        ≡ first_in node_rules s (nodes s Elsewhere (before ++ names_of_all s (list_of (take i items))) (place (types n) m) (pattern_view p)
        ++ part_nodes s (before ++ names_of_all s (list_of (take (i + 1) items))) types m parts k (list_of (drop (i + 1) items)))
    here_parts = ap (λ (ns : List Node). first_in node_rules s ns) parts_here

    pub parts_pass : None ≡ first_in node_rules s (nodes s Elsewhere (before ++ names_of_all s (list_of (take i items))) (place (types n) m) (pattern_view p)) →
        first_in node_rules s (part_nodes s (before ++ names_of_all s (list_of (take i items))) types m parts n (list_of (drop i items)))
        ≡ first_in node_rules s (part_nodes s (before ++ names_of_all s (list_of (take (i + 1) items))) types m parts k (list_of (drop (i + 1) items)))
    parts_pass h =
        here_parts
        ∙ pass s (nodes s Elsewhere (before ++ names_of_all s (list_of (take i items))) (place (types n) m) (pattern_view p))
        (part_nodes s (before ++ names_of_all s (list_of (take (i + 1) items))) types m parts k (list_of (drop (i + 1) items))) h

    pub parts_stop : (r : Option NodeFault) → is_some r ≡ true → r ≡ first_in node_rules s (nodes s Elsewhere (before ++ names_of_all s (list_of (take i items))) (place (types n) m) (pattern_view p)) →
        r ≡ first_in node_rules s (part_nodes s (before ++ names_of_all s (list_of (take i items))) types m parts n (list_of (drop i items)))
    parts_stop r some h =
        stop s (nodes s Elsewhere (before ++ names_of_all s (list_of (take i items))) (place (types n) m) (pattern_view p))
        (part_nodes s (before ++ names_of_all s (list_of (take (i + 1) items))) types m parts k (list_of (drop (i + 1) items))) r some h
        ∙ sym here_parts

  -- alternatives
  module _ (pl : Place) where
    pub ways_here : alternative_nodes s before pl (list_of (drop i items)) ≡ nodes s Elsewhere before pl (pattern_view p) ++ alternative_nodes s before pl (list_of (drop (i + 1) items))
    ways_here = rw (from_here items i p lt e) refl

    here_ways : first_in node_rules s (alternative_nodes s before pl (list_of (drop i items)))
        ≡ first_in node_rules s (nodes s Elsewhere before pl (pattern_view p) ++ alternative_nodes s before pl (list_of (drop (i + 1) items)))
    here_ways = ap (λ (ns : List Node). first_in node_rules s ns) ways_here

    pub ways_pass : None ≡ first_in node_rules s (nodes s Elsewhere before pl (pattern_view p)) →
        first_in node_rules s (alternative_nodes s before pl (list_of (drop i items))) ≡ first_in node_rules s (alternative_nodes s before pl (list_of (drop (i + 1) items)))
    ways_pass h = here_ways ∙ pass s (nodes s Elsewhere before pl (pattern_view p)) (alternative_nodes s before pl (list_of (drop (i + 1) items))) h

    pub ways_stop : (r : Option NodeFault) → is_some r ≡ true → r ≡ first_in node_rules s (nodes s Elsewhere before pl (pattern_view p)) →
        r ≡ first_in node_rules s (alternative_nodes s before pl (list_of (drop i items)))
    ways_stop r some h = stop s (nodes s Elsewhere before pl (pattern_view p)) (alternative_nodes s before pl (list_of (drop (i + 1) items))) r some h ∙ sym here_ways

  -- items of a slice pattern
  module _ (t : MType) (count : ℕ) (m : Mode) where
    pub items_here : item_nodes s (before ++ names_of_all s (list_of (take i items))) t count m (list_of (drop i items))
        ≡ nodes s AsItem (before ++ names_of_all s (list_of (take i items))) (place (slice_item_type t count (pattern_view p)) m) (pattern_view p)
        ++ item_nodes s (before ++ names_of_all s (list_of (take (i + 1) items))) t count m (list_of (drop (i + 1) items))
    items_here = rw (from_here items i p lt e, ← grown) refl

    here_items : first_in node_rules s (item_nodes s (before ++ names_of_all s (list_of (take i items))) t count m (list_of (drop i items)))
        ≡ first_in node_rules s (nodes s AsItem (before ++ names_of_all s (list_of (take i items))) (place (slice_item_type t count (pattern_view p)) m) (pattern_view p)
        ++ item_nodes s (before ++ names_of_all s (list_of (take (i + 1) items))) t count m (list_of (drop (i + 1) items)))
    here_items = ap (λ (ns : List Node). first_in node_rules s ns) items_here

    pub items_pass : None ≡ first_in node_rules s (nodes s AsItem (before ++ names_of_all s (list_of (take i items))) (place (slice_item_type t count (pattern_view p)) m) (pattern_view p)) →
        first_in node_rules s (item_nodes s (before ++ names_of_all s (list_of (take i items))) t count m (list_of (drop i items)))
        ≡ first_in node_rules s (item_nodes s (before ++ names_of_all s (list_of (take (i + 1) items))) t count m (list_of (drop (i + 1) items)))
    items_pass h =
        here_items
        ∙ pass s (nodes s AsItem (before ++ names_of_all s (list_of (take i items))) (place (slice_item_type t count (pattern_view p)) m) (pattern_view p))
        (item_nodes s (before ++ names_of_all s (list_of (take (i + 1) items))) t count m (list_of (drop (i + 1) items))) h

    pub items_stop : (r : Option NodeFault) → is_some r ≡ true →
        r ≡ first_in node_rules s (nodes s AsItem (before ++ names_of_all s (list_of (take i items))) (place (slice_item_type t count (pattern_view p)) m) (pattern_view p)) →
        r ≡ first_in node_rules s (item_nodes s (before ++ names_of_all s (list_of (take i items))) t count m (list_of (drop i items)))
    items_stop r some h =
        stop s (nodes s AsItem (before ++ names_of_all s (list_of (take i items))) (place (slice_item_type t count (pattern_view p)) m) (pattern_view p))
        (item_nodes s (before ++ names_of_all s (list_of (take (i + 1) items))) t count m (list_of (drop (i + 1) items))) r some h
        ∙ sym here_items

pub field_name_is : (f : FieldPat) → (field_view f).name ≡ rc_str_bytes f.name
field_name_is f = search (rules, the_lemmas)

-- the fields of a list
abbrev pub fields_of : List FieldPat → List FieldTree
fields_of fs = map field_view fs

module _ (s : Setting) (before : List (List ℕ)) (fields : List FieldPat) (i : ℕ) (f : FieldPat) (lt : i < length fields) (e : f ≡ get_or fields i f) where
  from_field : fields_from (fields_of (drop i fields)) ≡ fields_from (field_view f ∷ fields_of (drop (i + 1) fields))
  from_field = rw (drop-cons fields i f, add-one, ← e) refl

  up_to_field : names_of_fields s (fields_from (fields_of (take (i + 1) fields))) ≡ names_of_fields s (fields_from (fields_of (take i fields))) ++ names_bound s (field_view f).pattern
  up_to_field = rw (add-one, take-suc fields i f lt, ← e) (go (take i fields))
    where
      go : (fs : List FieldPat) → names_of_fields s (fields_from (fields_of (fs ++ f ∷ []))) ≡ names_of_fields s (fields_from (fields_of fs)) ++ names_bound s (field_view f).pattern
      go [] = append-nil (names_bound s (field_view f).pattern)
      go (g ∷ fs) = rw (go fs) (sym (append_assoc (names_bound s (field_view g).pattern) (names_of_fields s (fields_from (fields_of fs))) (names_bound s (field_view f).pattern)))

  pattern_is : (field_view f).pattern ≡ pattern_view f.pat
  pattern_is = search (rules, the_lemmas)

  short_is : (field_view f).short ≡ f.short
  short_is = search (rules, the_lemmas)

  pub fields_step : names_of_fields s (fields_from (fields_of (take i fields))) ++ names_bound s (pattern_view f.pat) ≡ names_of_fields s (fields_from (fields_of (take (i + 1) fields)))
  fields_step = ap (λ (p : PatternTree). names_of_fields s (fields_from (fields_of (take i fields))) ++ names_bound s p) (sym pattern_is) ∙ sym up_to_field

  grown_fields : (before ++ names_of_fields s (fields_from (fields_of (take i fields)))) ++ names_bound s (field_view f).pattern ≡ before ++ names_of_fields s (fields_from (fields_of (take (i + 1) fields)))
  grown_fields = append_assoc before (names_of_fields s (fields_from (fields_of (take i fields)))) (names_bound s (field_view f).pattern)
      ∙ ap (λ (ns : List (List ℕ)). before ++ ns) (sym up_to_field)

  module _ (types : ℕ → MType) (m : Mode) (names : List (List ℕ)) where
    pub fields_here : field_nodes s (before ++ names_of_fields s (fields_from (fields_of (take i fields)))) types m names (fields_from (fields_of (drop i fields)))
        ≡ nodes s (field_standing f.short) (before ++ names_of_fields s (fields_from (fields_of (take i fields)))) (place (types (field_number names (field_view f).name)) m) (pattern_view f.pat)
        ++ field_nodes s (before ++ names_of_fields s (fields_from (fields_of (take (i + 1) fields)))) types m names (fields_from (fields_of (drop (i + 1) fields)))
    fields_here =
        let b : List (List ℕ) = before ++ names_of_fields s (fields_from (fields_of (take i fields))) in
        let told : Bool → PatternTree → List (List ℕ) → List Node = λ short q c.
        nodes s (field_standing short) b (place (types (field_number names (field_view f).name)) m) q ++ field_nodes s c types m names (fields_from (fields_of (drop (i + 1) fields))) in
        ap (λ (fs : FieldTrees). field_nodes s b types m names fs) from_field
        ∙ (ap (λ (short : Bool). told short (field_view f).pattern (b ++ names_bound s (field_view f).pattern)) short_is
        ∙ (ap (λ (q : PatternTree). told f.short q (b ++ names_bound s (field_view f).pattern)) pattern_is
        ∙ ap (λ (c : List (List ℕ)). told f.short (pattern_view f.pat) c) grown_fields))

    here_fields : first_in node_rules s (field_nodes s (before ++ names_of_fields s (fields_from (fields_of (take i fields)))) types m names (fields_from (fields_of (drop i fields))))
        ≡ first_in node_rules s (nodes s (field_standing f.short) (before ++ names_of_fields s (fields_from (fields_of (take i fields)))) (place (types (field_number names (field_view f).name)) m) (pattern_view f.pat)
        ++ field_nodes s (before ++ names_of_fields s (fields_from (fields_of (take (i + 1) fields)))) types m names (fields_from (fields_of (drop (i + 1) fields))))
    here_fields = ap (λ (ns : List Node). first_in node_rules s ns) fields_here

    pub fields_pass : None ≡ first_in node_rules s (nodes s (field_standing f.short) (before ++ names_of_fields s (fields_from (fields_of (take i fields)))) (place (types (field_number names (field_view f).name)) m) (pattern_view f.pat)) →
        first_in node_rules s (field_nodes s (before ++ names_of_fields s (fields_from (fields_of (take i fields)))) types m names (fields_from (fields_of (drop i fields))))
        ≡ first_in node_rules s (field_nodes s (before ++ names_of_fields s (fields_from (fields_of (take (i + 1) fields)))) types m names (fields_from (fields_of (drop (i + 1) fields))))
    fields_pass h =
        here_fields
        ∙ pass s (nodes s (field_standing f.short) (before ++ names_of_fields s (fields_from (fields_of (take i fields)))) (place (types (field_number names (field_view f).name)) m) (pattern_view f.pat))
        (field_nodes s (before ++ names_of_fields s (fields_from (fields_of (take (i + 1) fields)))) types m names (fields_from (fields_of (drop (i + 1) fields)))) h

    pub fields_stop : (r : Option NodeFault) → is_some r ≡ true →
        r ≡ first_in node_rules s (nodes s (field_standing f.short) (before ++ names_of_fields s (fields_from (fields_of (take i fields)))) (place (types (field_number names (field_view f).name)) m) (pattern_view f.pat)) →
        r ≡ first_in node_rules s (field_nodes s (before ++ names_of_fields s (fields_from (fields_of (take i fields)))) types m names (fields_from (fields_of (drop i fields))))
    fields_stop r some h =
        stop s (nodes s (field_standing f.short) (before ++ names_of_fields s (fields_from (fields_of (take i fields)))) (place (types (field_number names (field_view f).name)) m) (pattern_view f.pat))
        (field_nodes s (before ++ names_of_fields s (fields_from (fields_of (take (i + 1) fields)))) types m names (fields_from (fields_of (drop (i + 1) fields)))) r some h
        ∙ sym here_fields

-- the names of all fields
pub fields_end : (s : Setting) (fields : List FieldPat) (i : ℕ) → length fields ≤ i → names_of_fields s (fields_from (fields_of (take i fields))) ≡ names_of_fields s (fields_from (fields_of fields))
fields_end s fields i le = ap (λ (xs : List FieldPat). names_of_fields s (fields_from (fields_of xs))) (take_all i fields le)

-- a rest breaks the same rules at any type
pub item_fault : (s : Setting) (b : List (List ℕ)) (t : MType) (count : ℕ) (m : Mode) (p : PatternTree) →
    first_in node_rules s (nodes s AsItem b (place (inner_type t) m) p) ≡ first_in node_rules s (nodes s AsItem b (place (slice_item_type t count p) m) p)
item_fault s b t count m p = by p (is_rest p) refl
  where
    any_type : (u v : MType) (p : PatternTree) → is_rest p ≡ true → first_in node_rules s (nodes s AsItem b (place u m) p) ≡ first_in node_rules s (nodes s AsItem b (place v m) p)
    any_type u v (At from Rest) h = refl
    any_type u v (At from (BindAs name by_ref mutable (At f Rest))) h = refl
    any_type u v p h = absurd cc

    by : (p : PatternTree) (r : Bool) → is_rest p ≡ r → first_in node_rules s (nodes s AsItem b (place (inner_type t) m) p) ≡ first_in node_rules s (nodes s AsItem b (place (slice_item_type t count p) m) p)
    by p true h = any_type (inner_type t) (slice_item_type t count p) p h
    by p false h = rw h refl

-- the node itself, and those below it
pub node_stop : (s : Setting) (st : Standing) (b : List (List ℕ)) (pl : Place) (from : ℕ) (sh : Shape) (rule : ℕ) → Some rule ≡ least_broken node_rules s (node_at from sh st pl b) →
    Some (record { rule = rule; at = from }) ≡ first_in node_rules s (nodes s st b pl (At from sh))
node_stop s st b pl from sh rule h =
    ap (λ (o : Option ℕ). earlier (fault_at from o) (first_in node_rules s (nodes_within s b pl sh))) h

within_is : (s : Setting) (b : List (List ℕ)) (pl : Place) (sh : Shape) → nodes_within s b pl sh ≡ inner_nodes s (b ++ own_names s sh) pl sh
within_is s b pl (BindAs name by_ref mutable q) = refl
within_is s b pl (Name name) = refl
within_is s b pl (Bind name by_ref mutable) = refl
within_is s b pl sh = ap (λ (x : List (List ℕ)). nodes_within s x pl sh) (sym (append-nil b))

pub node_pass : (s : Setting) (st : Standing) (b : List (List ℕ)) (pl : Place) (from : ℕ) (sh : Shape) (r : Option NodeFault) → None ≡ least_broken node_rules s (node_at from sh st pl b) →
    r ≡ first_in node_rules s (inner_nodes s (b ++ own_names s sh) pl sh) → r ≡ first_in node_rules s (nodes s st b pl (At from sh))
node_pass s st b pl from sh r h e =
    e
    ∙ (ap (λ (ns : List Node). first_in node_rules s ns) (sym (within_is s b pl sh))
    ∙ ap (λ (o : Option ℕ). earlier (fault_at from o) (first_in node_rules s (nodes_within s b pl sh))) h)

-- the names of a form are its own and those within it
pub names_are : (s : Setting) (sh : Shape) → own_names s sh ++ inner_names s sh ≡ names_within s sh
names_are s (Name name) = append-nil (name_if (is_path_name s name) name)
names_are s (Bind name by_ref mutable) = refl
names_are s (BindAs name by_ref mutable q) = refl
names_are s sh = refl
