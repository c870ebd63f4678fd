use Rattle.fort_threads_law_private.proofs.Acting.{acts_fine}
use Rattle.fort_threads_law_private.proofs.Growing.{value_grows}
use Rattle.fort_threads_law_private.proofs.acts_finely.Goals as goal

pub returns : goal.returns
returns c = λ p n m k first g apart grown a h.
    acts_fine p n m g (λ id v e. value_grows (apart.singles id v e) grown) a h
