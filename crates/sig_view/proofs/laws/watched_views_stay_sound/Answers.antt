use Rattle.sig_view.proofs.WatchedRows.{watching_later}
use Rattle.sig_view.proofs.laws.watched_views_stay_sound.Goals as goal

pub returns : goal.returns
returns c = λ s t more watching. watching_later s t more c.args.view.now watching
