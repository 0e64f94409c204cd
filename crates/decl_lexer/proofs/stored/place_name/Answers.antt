use Rattle.std.proofs.Common.{rules, ◌≡◌, ◌∙◌, true, sym}
use Rattle.std.specs.Str.{bytes_eq}
use Rattle.std.specs.Rc.{rc_str_bytes}
use Rattle.std.proofs.lemmas.Slice.Eq.{bytes_eq-Decides}
use Rattle.decl_lexer.proofs.StoredLemmas.{found_passes}
use Rattle.decl_lexer.proofs.stored.place_name.Goals as goal

pub returns-in-Some-clause-entry : goal.returns-in-Some-clause-entry
returns-in-Some-clause-entry c =
    let same : bytes_eq c.args.text.now (rc_str_bytes c.in-Some._known.now) ≡ true = found_passes (λ k. bytes_eq c.args.text.now (rc_str_bytes k)) c.args.names.now.keys c.in-Some._known.now (sym c.in-Some.ensures.key) in
    (c.in-Some._known.now, c.in-Some.ensures.stored, sym ((bytes_eq-Decides _ _).0 same))

pub returns-clause-entry : goal.returns-clause-entry
returns-clause-entry c =
    let shared : rc_str_bytes c.in_ok-shared.shared ≡ c.args.text.now = search rules in
    let s = c.in_ok-at.ensures.stored in
    (s.0, s.1, sym ((bytes_eq-Decides _ _).0 s.2) ∙ shared)
