use Rattle.shadow_tables.proofs.tables.Tables.root_address.Goals as goal

pub address-requires-clause-inside : goal.address-requires-clause-inside
address-requires-clause-inside c = c.in_ok-frame.ensures.inside

pub address-requires-clause-blocks : goal.address-requires-clause-blocks
address-requires-clause-blocks c = c.requires.1.blocks
