-- What is read of a job leaves its bytes and its map as they were.
use Rattle.std.specs.Prelude.{refl}
use Rattle.std.proofs.Common.{◌∙◌}
use Rattle.job.specs.Reads.{SameJob}
use Rattle.job.specs.declared.fields.Fields.{Fields}

-- where nothing is read
pub same_job : {fields : Fields} → SameJob fields fields
same_job = record { same_bytes = refl; same_map = refl }

-- over one part and then another
pub same_then : {before between after : Fields} → SameJob before between → SameJob between after → SameJob before after
same_then a b = record { same_bytes = b.same_bytes ∙ a.same_bytes; same_map = b.same_map ∙ a.same_map }
