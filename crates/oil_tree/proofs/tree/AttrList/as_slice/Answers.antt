use Rattle.std.proofs.Common.{sym, ap, ◌∙◌}
use Rattle.oil_tree.specs.AttrLists.{attr_list}
use Rattle.oil_tree.proofs.Lists.{attr_list-list_of}
use Rattle.oil_tree.proofs.tree.AttrList.as_slice.Goals as goal

pub returns-clause-items : goal.returns-clause-items
returns-clause-items c = c.as_slice.ensures.value ∙ sym (attr_list-list_of c.self.inside.attrs.items) ∙ ap attr_list c.self.view_is
