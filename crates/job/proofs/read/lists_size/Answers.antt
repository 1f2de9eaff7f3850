-- By the domain.
use Rattle.std.proofs.Common.{arith}
use Rattle.job.proofs.read.lists_size.Goals as goal

pub returns-in-Decibels : goal.returns-in-Decibels
returns-in-Decibels c = record { upper_bound = omega (arith, c.requires); value = rw c.in-Decibels.is }

pub returns-in-Scores : goal.returns-in-Scores
returns-in-Scores c = record { upper_bound = omega (arith, c.requires); value = rw c.in-Scores.is }
