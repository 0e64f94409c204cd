-- The JSON of unreachable arms and of refusals, piece by piece.
use Rattle.std.proofs.Common.{◌≡◌, ◌∙◌, ap, refl, List, ℕ, [], ◌∷◌, ◌++◌, append_assoc, codes}
use Rattle.std.specs.Prelude.{decimal}
use Rattle.serde_json.specs.Data.{boolean, string}
use Rattle.serde_json.specs.Written.{compact_text}
use Rattle.serde_json.proofs.OnLiterals.{serde_json_on_literals}
use Rattle.verdict_json.specs.declared.refusal.Refusal.{Refusal}
use Rattle.verdict_json.specs.Refused.{number_data, refusal_data, name_or_empty, refusal_text}
use Rattle.verdict_json.specs.Report.{unreachable_data, refused_data}
use Rattle.verdict_json.specs.Rules.{name_of}
use Rattle.verdict_json.specs.Trees.{UnreachableTree}

pub unreachable_written : (u : UnreachableTree) →
    compact_text (unreachable_data u)
    ≡ codes "{\"arm\":" ++ (decimal u.arm ++ (codes ",\"at\":" ++ (decimal u.at
    ++ (codes ",\"whole\":" ++ (compact_text (boolean u.whole) ++ codes "}")))))
unfolding serde_json_on_literals
unreachable_written u = refl

pub refusal_written : (r : Refusal) (name : List ℕ) →
    compact_text (refusal_data r name)
    ≡ codes "{\"arm\":" ++ (compact_text (number_data r.arm) ++ (codes ",\"at\":" ++ (compact_text (number_data r.at)
    ++ (codes ",\"item\":" ++ (compact_text (number_data r.item) ++ (codes ",\"name\":" ++ (compact_text (string name)
    ++ (codes ",\"rule\":" ++ (decimal r.rule ++ codes "}")))))))))
unfolding serde_json_on_literals
refusal_written r name = refl

pub refused_written : (function : List ℕ) (r : Refusal) (name : List ℕ) → name_or_empty (name_of r.rule) ≡ name →
    compact_text (refused_data function r)
    ≡ codes "{\"name\":" ++ (compact_text (string function) ++ (codes ",\"refused\":"
    ++ (compact_text (refusal_data r name) ++ codes "}")))
unfolding serde_json_on_literals
refused_written function r name e =
    ap (λ n. codes "{\"name\":" ++ (compact_text (string function) ++ (codes ",\"refused\":"
    ++ (compact_text (refusal_data r n) ++ codes "}")))) e

pub alone_written : (r : Refusal) (name : List ℕ) → name_or_empty (name_of r.rule) ≡ name →
    refusal_text r ≡ (codes "{\"refused\":" ++ compact_text (refusal_data r name)) ++ codes "}\n"
unfolding serde_json_on_literals refusal_text
alone_written r name e =
    ap (λ z. codes "{\"refused\":" ++ z) (append_assoc (compact_text (refusal_data r (name_or_empty (name_of r.rule)))) (125 ∷ []) (10 ∷ []))
    ∙ ap (λ n. (codes "{\"refused\":" ++ compact_text (refusal_data r n)) ++ codes "}\n") e
