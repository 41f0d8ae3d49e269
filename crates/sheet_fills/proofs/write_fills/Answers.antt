use Rattle.sheet_fills.proofs.write_fills.Goals as goal

pub returns : goal.returns
returns c = rw (c.fills-fills.ensures c.args.columns.now.settings, c.with_ranks.ensures) at c.put_fills.ensures
