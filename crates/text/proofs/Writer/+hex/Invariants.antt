use Rattle.text.proofs.Writer.+hex.Given as goal

abbrev pub decreases-hex : goal.decreases-hex
decreases-hex l = l.count
