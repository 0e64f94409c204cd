use Rattle.std.proofs.Common.{refl, sym, ◌∙◌}
use Rattle.decl_lexer.specs.declared.stored.Lists.{Lists}
use Rattle.decl_lexer.specs.declared.stored.Stored.{Stored}
use Rattle.decl_lexer.specs.Views.{plain_token_view}
use Rattle.decl_lexer.proofs.StoredLemmas.{grows_same, pushed}
use Rattle.decl_lexer.proofs.stored.Tokens.push_plain.Goals as goal

pub returns-clause-view : goal.returns-clause-view
returns-clause-view c =
    let old = c.args.self.now in
    let lists : Lists = c.keep_plain.new.self in
    let last : Stored = record { kind = c.in_ok-kind.kind; from = c.args.token.from; to = c.in_ok-to.to } in
    pushed old.lists lists lists old.stored.items c.push.new.self.items last (plain_token_view c.args.token) c.requires.whole c.in_ok-kind.ensures.grows (grows_same lists) c.in_ok-push.ensures.items
    (c.in_ok-kind.ensures.shows lists (grows_same lists)) refl c.in_ok-to.ensures

pub returns-clause-whole : goal.returns-clause-whole
returns-clause-whole c longer g =
    let old = c.args.self.now in
    let lists : Lists = c.keep_plain.new.self in
    let last : Stored = record { kind = c.in_ok-kind.kind; from = c.args.token.from; to = c.in_ok-to.to } in
    pushed old.lists lists longer old.stored.items c.push.new.self.items last (plain_token_view c.args.token) c.requires.whole c.in_ok-kind.ensures.grows g c.in_ok-push.ensures.items
    (c.in_ok-kind.ensures.shows longer g) refl c.in_ok-to.ensures
    ∙ sym (returns-clause-view c)
