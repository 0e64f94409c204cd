-- Nodes that break no rule, by the tests.
use Rattle.std.proofs.Common.{◌≡◌, ℕ, zero, suc, Bool, true, false, ◌||◌, ◌&&◌, List, [], ◌∷◌, ◌++◌, slice_get, Some}
use Rattle.std.proofs.Common.{refl, ap, subst, ◌∙◌, nat_eq}
use Rattle.std.specs.Prelude.{⊤}
use Rattle.pattern_rules.specs.Settings.{Setting}
use Rattle.pattern_rules.specs.Nodes.{Node}
use Rattle.pattern_rules.specs.NodeRules.{is_unknown_name, is_no_binding, has_wrong_type, has_wrong_count}
use Rattle.pattern_rules.specs.NodeRules.{names_no_field, names_field_twice, misses_field, has_rest_twice}
use Rattle.pattern_rules.specs.OtherRules.{is_out_of_range, is_empty_range, binds_twice, has_other_bindings}
use Rattle.pattern_rules.specs.OtherRules.{writes_mode, is_open_item, is_unsupported_pattern}
use Rattle.pattern_rules.specs.Faults.{NodeRule, node_rules, alternative_rules, breaks}
use Rattle.pattern_laws.proofs.FineNodes.{AllNodes}
use Rattle.arm_laws.specs.Fine.{IsFineNode}

-- the node passes each test
pub record PassesAll (s : Setting) (n : Node) : Type 0 where
  pub known : is_unknown_name s n ≡ false
  pub binding : is_no_binding s n ≡ false
  pub type : has_wrong_type s n ≡ false
  pub count : has_wrong_count s n ≡ false
  pub field : names_no_field s n ≡ false
  pub once : names_field_twice s n ≡ false
  pub all : misses_field s n ≡ false
  pub rest : has_rest_twice s n ≡ false
  pub range : is_out_of_range s n ≡ false
  pub ends : is_empty_range s n ≡ false
  pub name : binds_twice s n ≡ false
  pub others : has_other_bindings s n ≡ false
  pub mode : writes_mode s n ≡ false
  pub item : is_open_item s n ≡ false
  pub kind : is_unsupported_pattern s n ≡ false

pub and_no : (b : Bool) → (b && false) ≡ false
and_no true = refl
and_no false = refl

neither : (b c : Bool) → b ≡ false → c ≡ false → (b || c) ≡ false
neither b c h k = rw (h, k) refl

-- the node breaks none of these
abbrev PassesList : Setting → Node → List NodeRule → Type 0
PassesList s n [] = ⊤
PassesList s n (r ∷ rs) = (r.broken s n ≡ false) × PassesList s n rs

breaks_none : (s : Setting) (n : Node) (rs : List NodeRule) (rule : ℕ) → PassesList s n rs → breaks rs s n rule ≡ false
breaks_none s n [] rule h = refl
breaks_none s n (r ∷ rs) rule h =
    neither (nat_eq r.rule rule && r.broken s n) (breaks rs s n rule)
    (ap (λ b. nat_eq r.rule rule && b) h.0 ∙ and_no (nat_eq r.rule rule)) (breaks_none s n rs rule h.1)

pub passes_fine : (s : Setting) (n : Node) → PassesAll s n → IsFineNode s n
passes_fine s n p = record {
  alone = λ rule. breaks_none s n node_rules rule (
    p.known,
    (
      p.binding,
      (
        p.type,
        (
          p.count,
          (
            p.field,
            (
              p.once,
              (
                p.all,
                (
                  p.rest,
                  (
                    p.range,
                    (
                      p.ends,
                      (p.name, (p.mode, (p.item, (p.kind, tt)))),
                    ),
                  ),
                ),
              ),
            ),
          ),
        ),
      ),
    ),
  );
  alternatives = λ rule. breaks_none s n alternative_rules rule (p.others, tt);
}

pub all_at : (s : Setting) (ns : List Node) (i : ℕ) (n : Node) → AllNodes (PassesAll s) ns → slice_get ns i ≡ Some n →
    IsFineNode s n
all_at s [] i n h e = absurd cc
all_at s (m ∷ ns) zero n h e = let same : m ≡ n = cc in subst (IsFineNode s) same (passes_fine s m h.0)
all_at s (m ∷ ns) (suc i) n h e = all_at s ns i n h.1 e

pub all_append : (P : Node → Type 0) (ns ms : List Node) → AllNodes P ns → AllNodes P ms → AllNodes P (ns ++ ms)
all_append P [] ms h k = k
all_append P (n ∷ ns) ms h k = (h.0, all_append P ns ms h.1 k)
