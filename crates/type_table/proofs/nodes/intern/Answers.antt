use Rattle.std.proofs.Common.{List, sym, subst}
use Rattle.type_table.specs.declared.nodes.Node.{Node}
use Rattle.type_table.specs.Nodes.{AreNodes, Extends}
use Rattle.type_table.specs.contracts.nodes.NodePartialEq.TheImpl as node_eq
use Rattle.type_table.specs.Keeping.{KeepsWith}
use Rattle.type_table.proofs.Declares.{keeps_insert}
use Rattle.type_table.proofs.Plains.{same_plain}
use Rattle.type_table.proofs.NodeLemmas.{nodes_insert, extends_insert, type_inserted}
use Rattle.type_table.proofs.nodes.intern.Goals as goal

pub returns-clause-are : goal.returns-clause-are
returns-clause-are c =
    let P : List Node → Type 0 = λ ks. AreNodes ks in
    subst P (sym c.in_ok-at.ensures.keys) (nodes_insert node_eq.ghosts.eq c.args.nodes.now.keys c.args.node c.requires.are c.requires.below c.requires.fits)

pub returns-clause-type_is : goal.returns-clause-type_is
returns-clause-type_is c =
    let h = c.in_ok-at.ensures.stored in
    let P : List Node → Type 0 = λ ks. AreNodes ks in
    let Q : List Node → Type 0 = λ ks. Extends c.args.nodes.now.keys ks in
    type_inserted c.args.nodes.now.keys c.insert_full.new.self.keys c.args.node h.0 c.in_ok-at.at
    (subst P (sym c.in_ok-at.ensures.keys) (nodes_insert node_eq.ghosts.eq c.args.nodes.now.keys c.args.node c.requires.are c.requires.below c.requires.fits))
    (subst Q (sym c.in_ok-at.ensures.keys) (extends_insert node_eq.ghosts.eq c.args.nodes.now.keys c.args.node))
    c.requires.below h.1 (same_plain c.args.node h.0 h.2)

pub returns-clause-declared : goal.returns-clause-declared
returns-clause-declared c =
    subst (KeepsWith c.args.node.head c.args.nodes.now.keys) (sym c.in_ok-at.ensures.keys) (keeps_insert node_eq.ghosts.eq c.args.nodes.now.keys c.args.node)
