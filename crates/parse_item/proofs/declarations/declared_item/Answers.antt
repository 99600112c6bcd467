use Rattle.parse_item.proofs.declarations.declared_item.Goals as goal

pub returns-clause-made : goal.returns-clause-made
returns-clause-made g c = record {
  list = c.in_ok-list.list;
  semicolon = c.in_ok-semicolon.semicolon;
  place = _;
  parts = c.in_ok-list.ensures.reads;
  closes = c.in_ok-semicolon.ensures.token;
  is = c.item.ensures;
}
