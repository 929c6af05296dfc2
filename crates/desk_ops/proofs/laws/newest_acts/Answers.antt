use Rattle.desk_ops.proofs.Newest.{insert_shows, delete_shows, set_shows}
use Rattle.desk_ops.proofs.NewValues.{setting_new, setting_stays}
use Rattle.desk_ops.proofs.laws.newest_acts.Goals as goal

pub returns : goal.returns
returns c = record {
  inserted = λ h l s p y new own i at. insert_shows h l s new p y own i at;
  taken_out = λ h l s t new i lt is. delete_shows h l s new t i lt is;
  shown_stays = λ h l s key v new. set_shows h l s new key v;
  new_value = λ h l s key v new. setting_new h l s new key v;
  value_stays = λ h l o key new other. setting_stays h l o new key other;
}
