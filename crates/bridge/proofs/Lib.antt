mod ReplayLaws
