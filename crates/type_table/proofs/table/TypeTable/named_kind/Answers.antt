use Rattle.std.proofs.Common.{sym, ap, ◌∙◌, subst}
use Rattle.match_model.specs.Types.{MType, DeclaredItem, NamedType}
use Rattle.type_names.specs.Views.{owner_view}
use Rattle.type_names.specs.declared.meanings.Owner.{Owner}
use Rattle.type_table.specs.Nodes.{owner_arguments}
use Rattle.type_table.specs.Tables.{KindIs}
use Rattle.type_table.proofs.KindLemmas.{no_arguments}
use Rattle.type_table.proofs.table.TypeTable.named_kind.Goals as goal

pub returns-in-Item-clause-is : goal.returns-in-Item-clause-is
returns-in-Item-clause-is c =
    let named = c.requires.named in
    let none = no_arguments named.0 (named.2 ∙ ap (λ (o : Owner). owner_arguments (owner_view o)) c.in-Item.is) in
    let type = named.1 ∙ (ap (λ (o : Owner). NamedType (owner_view o) named.0) c.in-Item.is ∙ ap (NamedType (DeclaredItem c.in-Item.i)) none) in
    let P : MType → Type 0 = λ t. KindIs c.args.self.now t c.item_kind.result in
    subst P (sym type) c.item_kind.ensures.is
